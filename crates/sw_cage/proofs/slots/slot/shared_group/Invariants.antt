use Rattle.std.proofs.Common.{◌≡◌, ℕ, ◌≤◌}
use Rattle.sw_base.specs.Layout.{group_at}
use Rattle.sw_cage.proofs.slots.slot.shared_group.Given as goal

abbrev pub invariant-loop-before : goal.invariant-loop-before
invariant-loop-before g l = (ch : ℕ) → 1 ≤ ch → ch ≤ l.before → group_at l.card.1.groups ch ≡ l.group
