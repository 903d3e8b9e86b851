use Rattle.std.proofs.Common.{◌≡◌, drop, [], length}
use Rattle.sw_verify.specs.Sized.{size_from, AreDone, Closes}
use Rattle.sw_verify.proofs.size.size_by_loops.Given as goal

abbrev pub invariant-loop-i : goal.invariant-loop-i
invariant-loop-i l = record {
  size : size_from (drop l.i l.steps) l.here l.opened ≡ size_from l.steps 0 [];
  closes : Closes (drop l.i l.steps) (length l.opened);
  done : AreDone l.opened;
}
