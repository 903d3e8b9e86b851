-- What a program of a scan keeps.
use Rattle.std.specs.Prelude.{◌≡◌, length}
use Rattle.sw_trigger.specs.Counts.{awaiting, reads}
use Rattle.sw_code.specs.Range.{IsProgramInRange}
use Rattle.sw_verify.specs.Items.{items_of}
use Rattle.sw_verify.specs.Runnable.{IsRunnable}
use Rattle.sw_verify.specs.declared.program.ScanProgram.TheInside.{Inside}

-- its code is in range and can be run, and its counts are those of the code's items
pub record IsScanProgram (p : Inside) : Type 0 where
  pub range : IsProgramInRange p.code
  pub runnable : IsRunnable p.code
  pub bound : p.bound ≡ length (awaiting (items_of p.code.steps))
  pub readings : p.readings ≡ reads (items_of p.code.steps)
