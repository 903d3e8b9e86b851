use Rattle.std.proofs.Common.{[], sym, ◌∙◌, ap}
use Rattle.sw_card.specs.Account.{Account, closed_at}
use Rattle.sw_card.proofs.Rows.{none_is_closed}
use Rattle.sw_cage.proofs.slots.slot.CageSlot.with_meter.Goals as goal

pub invariant_of-result : goal.invariant_of-result
invariant_of-result g c = (
  record {
    closed = λ ch few. c.new.ensures ch ∙ sym (ap (λ (card : _ × Account). closed_at card.1.closed ch) c.of_meter.ensures ∙ none_is_closed [] ch);
    within = λ ch k. absurd (let n = c.new.ensures ch in cc);
  },
  tt,
)
