use Rattle.std.proofs.Common.{◌≤◌}
use Rattle.sw_drivers.proofs.meter.read_line.Given as goal

abbrev pub invariant-loop : goal.invariant-loop
invariant-loop g l = l.length ≤ 256

abbrev pub invariant-loop-at : goal.invariant-loop-at
invariant-loop-at g l = Unit {0}
