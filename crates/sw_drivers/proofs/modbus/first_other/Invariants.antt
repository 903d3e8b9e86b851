use Rattle.std.proofs.Common.{◌≡◌, ◌<◌, ◌+◌, ℕ, slice_index_or, false}
use Rattle.sw_drivers.specs.Wires.{is_on}
use Rattle.sw_drivers.proofs.modbus.first_other.Given as goal

abbrev pub invariant-loop-before : goal.invariant-loop-before
invariant-loop-before l = (k : ℕ) → k < l.before → is_on l.states k ≡ slice_index_or l.account (k + 1) false
