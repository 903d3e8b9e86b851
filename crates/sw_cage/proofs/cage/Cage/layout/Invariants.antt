use Rattle.std.proofs.Common.{◌≡◌, ◌≤◌, take}
use Rattle.std.specs.Prelude.{vec_len}
use Rattle.std.specs.Vec.{vec_capacity}
use Rattle.sw_base.specs.Limits.{most_slots}
use Rattle.sw_cage.specs.Cage.{cage_layout}
use Rattle.sw_cage.proofs.cage.Cage.layout.Given as goal

abbrev pub invariant-loop-before : goal.invariant-loop-before
invariant-loop-before g l = record {
  items : l.bays.items ≡ take l.before (cage_layout l.self.seen);
  count : vec_len l.bays ≡ l.before;
  room : most_slots ≤ vec_capacity l.bays;
}
