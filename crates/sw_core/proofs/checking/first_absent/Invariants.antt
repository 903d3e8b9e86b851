use Rattle.std.specs.Prelude.{◌≡◌, drop}
use Rattle.sw_core.specs.Checking.{first_absent}
use Rattle.sw_core.proofs.checking.first_absent.Given as goal

abbrev pub invariant-loop-chan : goal.invariant-loop-chan
invariant-loop-chan l = first_absent l.layout (drop l.chan-index l.chans) ≡ first_absent l.layout l.chans
