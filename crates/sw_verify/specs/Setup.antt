-- What INITiate would run: the agenda of the settings, or in its place what a program does.
use Rattle.std.specs.Prelude.{◌≡◌, ℕ, Bool, true, false, List, Option, Some, None, length, is_some}
use Rattle.sw_trigger.specs.Settings.{SettingsSeen, at_reset}
use Rattle.sw_trigger.specs.Agenda.{Item}
use Rattle.sw_trigger.specs.Agenda as settled
use Rattle.sw_trigger.specs.Counts.{awaiting, reads}
use Rattle.sw_code.specs.Range.{Program}
use Rattle.sw_code.specs.Compiled.{compiled}
use Rattle.sw_verify.specs.declared.setup.Setup.{Setup}
use Rattle.sw_verify.specs.declared.setup.Loaded.{Loaded}
use Rattle.sw_verify.specs.declared.setup.Loaded.TheVariants.{Nothing, Off, On}
use Rattle.sw_verify.specs.Items.{items_of}
use Rattle.sw_verify.specs.Course.{CourseSeen, sources_of}

-- the program that INITiate runs
abbrev pub running : Loaded → Option Program
running Nothing = None
running (Off code) = None
running (On code) = Some code

-- the program that is kept, on or off
abbrev pub kept : Loaded → Option Program
kept Nothing = None
kept (Off code) = Some code
kept (On code) = Some code

-- the same program, on or off
abbrev pub turned : Bool → Loaded → Loaded
turned on Nothing = Nothing
turned true (Off code) = On code
turned true (On code) = On code
turned false (Off code) = Off code
turned false (On code) = Off code

abbrev pub switched : Bool → Setup → Setup
switched on s = record s { program = turned on s.program }

-- with no program there is nothing to switch on
abbrev pub CanSwitch : Bool → Setup → Type 0
CanSwitch true s = is_some (kept s.program) ≡ true
CanSwitch false s = Unit {0}

abbrev pub agenda_by : SettingsSeen → Option Program → List Item
agenda_by s None = settled.agenda s
agenda_by s (Some code) = items_of code.steps

-- all that a scan does, in order
abbrev pub agenda : Setup → List Item
agenda s = agenda_by s.scan (running s.program)

abbrev pub meter_by : SettingsSeen → Option Program → ℕ
meter_by s None = s.meter
meter_by s (Some code) = code.meter

-- the slot of the meter that reads
abbrev pub meter_of : Setup → ℕ
meter_of s = meter_by s.scan (running s.program)

-- the events that a scan takes before it is over
abbrev pub bound_of : Setup → ℕ
bound_of s = length (awaiting (agenda s))

abbrev pub readings_of : Setup → ℕ
readings_of s = reads (agenda s)

-- the room for readings
abbrev pub points_of : Setup → ℕ
points_of s = s.scan.points

abbrev pub code_by : SettingsSeen → Option Program → Program
code_by s None = compiled s
code_by s (Some code) = code

-- the code of the scan
abbrev pub code_of : Setup → Program
code_of s = code_by s.scan (running s.program)

-- what is done, by which meter and which sources
abbrev pub course_of : Setup → CourseSeen
course_of s = record {
  items = agenda s;
  meter = meter_of s;
  sources = sources_of s.scan;
  points = points_of s;
}

-- the settings at *RST, and no program
abbrev pub setup_at_reset : Setup
setup_at_reset = record { scan = at_reset; program = Nothing }
