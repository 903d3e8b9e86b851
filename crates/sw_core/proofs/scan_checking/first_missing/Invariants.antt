use Rattle.std.specs.Prelude.{◌≡◌, drop}
use Rattle.sw_core.specs.ScanChecking.{first_missing}
use Rattle.sw_core.proofs.scan_checking.first_missing.Given as goal

abbrev pub invariant-loop-position : goal.invariant-loop-position
invariant-loop-position l = first_missing l.layout (drop l.position-index l.positions) ≡ first_missing l.layout l.positions
