-- The meter of what INITiate would run.
use Rattle.std.proofs.Common.{◌≤◌, Option, None, Some}
use Rattle.sw_base.specs.Limits.{most_slots}
use Rattle.sw_trigger.specs.Settings.{IsInRange}
use Rattle.sw_code.specs.Range.{Program}
use Rattle.sw_verify.specs.declared.snapshot.Snapshot.{Snapshot}
use Rattle.sw_verify.specs.Setup.{running, meter_of, meter_by}
use Rattle.sw_verify.specs.Ready.{IsReady, IsReadyBy}

meter_in : (p : Snapshot) (o : Option Program) → IsInRange p.settings.scan → IsReadyBy p o
    → (1 ≤ meter_by p.settings.scan o) × (meter_by p.settings.scan o ≤ most_slots)
meter_in p None i r = i.meter
meter_in p (Some code) i r = r.range.meter

-- its slot is one of the cage
pub ready_meter : (p : Snapshot) → IsInRange p.settings.scan → IsReady p → (1 ≤ meter_of p.settings) × (meter_of p.settings ≤ most_slots)
ready_meter p i r = meter_in p (running p.settings.program) i r
