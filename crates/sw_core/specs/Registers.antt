-- What QUEStionable reports of the cards.
use Rattle.std.specs.Prelude.{ℕ, Bool, if◌then◌else◌}
use Rattle.sw_status.specs.Registers.{group_conditioned}
use Rattle.sw_status.specs.StatusModel.{StatusSeen, with_group, with_bit}
use Rattle.sw_base.specs.declared.terms.StatusGroup.TheVariants.{Questionable}

-- QUEStionable condition bit 9: a card failed (own)
abbrev pub card_fault_reported : StatusSeen → StatusSeen
card_fault_reported s = with_group s Questionable (group_conditioned s.questionable 512)

-- it is over
abbrev pub card_fault_cleared : StatusSeen → StatusSeen
card_fault_cleared s = with_group s Questionable (group_conditioned s.questionable 0)

-- the condition that the query answers: with bit 9 too while some card is unsure of its relays (own)
abbrev pub condition_told : ℕ → Bool → ℕ
condition_told bits sure = if sure then bits else with_bit bits 9
