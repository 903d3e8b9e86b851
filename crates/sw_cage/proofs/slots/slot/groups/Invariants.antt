use Rattle.std.proofs.Common.{◌≡◌, ◌≤◌, take}
use Rattle.std.specs.Prelude.{vec_len}
use Rattle.std.specs.Vec.{vec_capacity}
use Rattle.sw_cage.proofs.slots.slot.groups.Given as goal

abbrev pub invariant-loop-before : goal.invariant-loop-before
invariant-loop-before g l = record {
  items : l.groups.items ≡ take l.before l.card.1.groups;
  count : vec_len l.groups ≡ l.before;
  room : l.count ≤ vec_capacity l.groups;
}
