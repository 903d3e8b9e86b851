use Rattle.std.proofs.Common.{◌≡◌, drop, []}
use Rattle.sw_verify.specs.Nest.{fault_in}
use Rattle.sw_verify.proofs.nest.nesting.Given as goal

abbrev pub invariant-loop-i : goal.invariant-loop-i
invariant-loop-i l = fault_in (drop l.i l.steps) l.i l.frames ≡ fault_in l.steps 0 []
