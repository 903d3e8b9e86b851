use Rattle.std.specs.Prelude.{◌≡◌, drop}
use Rattle.sw_core.specs.ScanChecking.{first_in}
use Rattle.sw_core.proofs.scan_checking.first_in.Given as goal

abbrev pub invariant-loop-chan : goal.invariant-loop-chan
invariant-loop-chan l =
    first_in l.layout l.before.items (drop l.chan-index l.position) ≡ first_in l.layout l.fn.closed.items l.position
