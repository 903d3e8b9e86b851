use Rattle.std.proofs.Common.{◌≡◌, take, drop, ◌++◌, map}
use Rattle.sw_cage.specs.Accounts.{accounts_of, is_closed}
use Rattle.sw_cage.specs.Claims.{closed_claim}
use Rattle.sw_cage.proofs.slots.claims.keep_closed_in.Given as goal

abbrev pub invariant-loop-claim : goal.invariant-loop-claim
invariant-loop-claim g l = l.claim-items ≡ map (closed_claim (is_closed (accounts_of l.slots))) (take l.claim-index l.fn.claims) ++ drop l.claim-index
    l.fn.claims
