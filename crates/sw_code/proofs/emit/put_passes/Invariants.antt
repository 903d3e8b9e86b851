use Rattle.std.proofs.Common.{◌≡◌, ◌++◌}
use Rattle.sw_trigger.specs.Agenda.{passes}
use Rattle.sw_code.specs.Compiled.{steps_of}
use Rattle.sw_code.proofs.emit.put_passes.Given as goal

abbrev pub invariant-loop-k : goal.invariant-loop-k
invariant-loop-k l = l.steps.items ≡ l.fn.steps.items ++ steps_of (passes l.settings 0 l.k)
