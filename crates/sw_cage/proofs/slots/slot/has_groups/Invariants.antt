use Rattle.std.proofs.Common.{◌≡◌, take}
use Rattle.sw_cage.proofs.slots.slot.has_groups.Given as goal

abbrev pub invariant-loop-before : goal.invariant-loop-before
invariant-loop-before g l = take l.before l.groups ≡ take l.before l.card.1.groups
