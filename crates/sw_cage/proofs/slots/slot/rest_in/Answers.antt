use Rattle.std.proofs.Common.{sym, ◌∙◌, ap, subst}
use Rattle.sw_card.specs.Account.{Account, closed_at}
use Rattle.sw_cage.specs.Accounts.{option_account}
use Rattle.sw_cage.specs.Shared.{IsShared}
use Rattle.sw_card.proofs.Rows.{none_is_closed}
use Rattle.sw_cage.proofs.SharedLemmas.{shared_rest}
use Rattle.sw_cage.proofs.slots.slot.rest_in.Goals as goal

pub invariant_of-slot-2 : goal.invariant_of-slot-2
invariant_of-slot-2 g c = (
  record {
    closed = λ ch few. c.new-slot-inside.ensures ch
        ∙ sym (ap (λ (a : Account). closed_at a.closed ch) c.open_all.ensures ∙ none_is_closed _ ch);
    within = λ ch k. absurd (let n = c.new-slot-inside.ensures ch in cc);
  },
  shared_rest c.slot.inside.shared _ c.open_all.new.self.1 c.open_all.ensures
      (subst (λ o. IsShared c.slot.inside.shared (option_account o)) c.in-Some.is c.slot.invariant.1),
)
