use Rattle.std.proofs.Common.{◌≡◌, ◌+◌, ◌-◌}
use Rattle.sw_rack.specs.Racks.{is_slot}
use Rattle.sw_rack.proofs.slots.is_slot.Given as goal

abbrev pub invariant-loop-before : goal.invariant-loop-before
invariant-loop-before l = is_slot (16 - l.before) (l.before + 1) l.name ≡ is_slot 16 1 l.name
