use Rattle.std.proofs.Common.{◌-◌, map, slice_set, refl, sym, ◌∙◌, ap, subst, inr}
use Rattle.sw_card.specs.Account.{of_meter}
use Rattle.sw_cage.specs.Accounts.{accounts_of, is_closed}
use Rattle.sw_cage.specs.Claims.{AreClaimed, closed_claim}
use Rattle.sw_cage.proofs.OneSlotLemmas.{put_is}
use Rattle.sw_cage.proofs.ClaimedLemmas.{slots_set, claimed_put, claimed_put_over}
use Rattle.sw_cage.proofs.slots.Slots.put_meter.Goals as goal

pub keep_closed-requires : goal.keep_closed-requires
keep_closed-requires g c = slots_set c.self.inside.slots.items c.deref.result.now (c.args.slot - 1) c.with_meter.result c.self.invariant.safe.size
    c.deref.ensures.value

pub invariant_of-self : goal.invariant_of-self
invariant_of-self g c =
    subst (λ v. AreClaimed (accounts_of (slice_set c.self.inside.slots.items (c.args.slot - 1) v)) c.self.inside.claims) (sym c.with_meter.ensures)
    (claimed_put c.self.inside.slots.items c.args.slot c.closed.result (inr c.args.meter.0, of_meter c.args.meter.1) c.index.result.now c.args.meter.1 c.self.inside.claims
    c.self.invariant refl c.requires.0 c.requires.1 c.index.ensures c.closed.ensures
    (c.is_empty-had_none.ensures.none c.if-had_none.true))

pub returns-then-had_none-clause-account : goal.returns-then-had_none-clause-account
returns-then-had_none-clause-account g c = ap (λ v. accounts_of (slice_set c.self.inside.slots.items (c.args.slot - 1) v)) c.with_meter.ensures
    ∙ put_is c.self.inside.slots.items (accounts_of c.args.self.now) _ (inr c.args.meter.0, of_meter c.args.meter.1) c.args.meter.1 (ap accounts_of c.self.view_is) refl

pub invariant_of-self-2 : goal.invariant_of-self-2
invariant_of-self-2 g c = subst (AreClaimed _) (sym c.keep_closed.ensures)
    (subst (λ v. AreClaimed (accounts_of (slice_set c.self.inside.slots.items (c.args.slot - 1) v))
    (map (closed_claim (is_closed (accounts_of c.deref.result.now))) c.self.inside.claims)) (sym c.with_meter.ensures)
    (claimed_put_over c.self.inside.slots.items c.deref.result.now c.args.slot (inr c.args.meter.0, of_meter c.args.meter.1) c.args.meter.1 c.self.inside.claims
    c.self.invariant refl c.requires.0 c.requires.1
    (c.deref.ensures.value ∙ ap (slice_set c.self.inside.slots.items (c.args.slot - 1)) c.with_meter.ensures)))

pub returns-clause-account : goal.returns-clause-account
returns-clause-account g c = ap (λ v. accounts_of (slice_set c.self.inside.slots.items (c.args.slot - 1) v)) c.with_meter.ensures
    ∙ put_is c.self.inside.slots.items (accounts_of c.args.self.now) _ (inr c.args.meter.0, of_meter c.args.meter.1) c.args.meter.1 (ap accounts_of c.self.view_is) refl
