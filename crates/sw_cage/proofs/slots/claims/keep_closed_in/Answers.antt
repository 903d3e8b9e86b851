use Rattle.std.proofs.Common.{sym, ◌∙◌, ap, slice_set}
use Rattle.std.proofs.lemmas.List.Edits.{map_over_more}
use Rattle.sw_cage.specs.Accounts.{accounts_of, is_closed}
use Rattle.sw_cage.specs.Claims.{closed_claim}
use Rattle.sw_cage.proofs.slots.claims.keep_closed_in.Goals as goal

pub loop-claim-preserved : goal.loop-claim-preserved
loop-claim-preserved g c = ap (slice_set c.loop-claim.claim-items c.loop-claim.claim-index)
    (c.if_closed.ensures ∙ ap (closed_claim (is_closed (accounts_of c.args.slots.now))) (sym c.claim-item.is))
    ∙ map_over_more (closed_claim (is_closed (accounts_of c.args.slots.now))) c.args.claims.now c.loop-claim.claim-items c.loop-claim.claim-index
    c.claim-item.result c.loop-claim-test.true c.loop-claim.invariant c.claim-item.is
