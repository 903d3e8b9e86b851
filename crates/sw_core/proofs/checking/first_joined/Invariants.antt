use Rattle.std.specs.Prelude.{◌≡◌, drop}
use Rattle.sw_core.specs.Checking.{first_joined}
use Rattle.sw_core.proofs.checking.first_joined.Given as goal

abbrev pub invariant-loop-chan : goal.invariant-loop-chan
invariant-loop-chan l =
    first_joined l.layout l.before.items (drop l.chan-index l.chans) ≡ first_joined l.layout l.fn.closed.items l.chans
