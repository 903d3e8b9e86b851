use Rattle.std.proofs.Common.{◌-◌, arith, Some, slice_set, is_some, sym, ◌∙◌, ap, subst, inl, inr, rules}
use Rattle.sw_base.specs.Layout.{slot_at}
use Rattle.sw_cage.specs.Accounts.{accounts_of, option_closed}
use Rattle.sw_cage.specs.Claims.{AreClaimed}
use Rattle.sw_cage.proofs.SlotChangeLemmas.{is_none}
use Rattle.sw_cage.proofs.OneSlotLemmas.{written}
use Rattle.sw_cage.proofs.ClaimedLemmas.{claimed_quiet}
use Rattle.sw_cage.proofs.slots.Slots.install.Goals as goal

pub returns-then-slot-lt1-clause-refused : goal.returns-then-slot-lt1-clause-refused
returns-then-slot-lt1-clause-refused g c = (
  is_none _ (sym c.has_card.ensures ∙ c.if-has_card.false),
  elim c.then-slot-lt1.either [ inl h ↦ inl h | inr h ↦ inr (inl h.1) ],
)

pub invariant_of-self : goal.invariant_of-self
invariant_of-self g c =
    subst (λ v. AreClaimed (accounts_of (slice_set c.self.inside.slots.items (c.args.slot - 1) v)) c.self.inside.claims) (sym c.with.ensures)
    (claimed_quiet c.self.inside.slots.items c.args.slot (Some c.args.card) c.self.inside.claims c.self.invariant (omega arith) (omega arith)
    (c.is_fit.ensures.open (search rules))
    (record { states = c.is_fit.ensures.states; few = λ m. (c.is_fit.ensures.few (search rules) m).1 })
    (λ k. ap (λ o. option_closed o k) (is_none _ (ap (λ r. is_some (slot_at r c.args.slot)) (ap accounts_of c.self.view_is) ∙ sym c.has_card.ensures
    ∙ c.if-has_card.false))))

pub returns-clause-account : goal.returns-clause-account
returns-clause-account g c = ap (λ v. accounts_of (slice_set c.self.inside.slots.items (c.args.slot - 1) v)) c.with.ensures
    ∙ written c.self.inside.slots.items (accounts_of c.args.self.now) _ (Some c.args.card) (ap accounts_of c.self.view_is)

pub returns-clause-accepted : goal.returns-clause-accepted
returns-clause-accepted g c = record {
  empty = is_none _ (sym c.has_card.ensures ∙ c.if-has_card.false);
  first = omega arith;
  last = omega arith;
  fit =
      λ m. record { some_channel = (c.is_fit.ensures.few (search rules) m).0; few_channels = (c.is_fit.ensures.few (search rules) m).1 };
  «open» =
      c.is_fit.ensures.open (search rules);
}
