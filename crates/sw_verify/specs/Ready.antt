-- When a scan may begin, by the settings or by a program, and why not.
use Rattle.std.specs.Prelude.{◌≡◌, ◌<◌, ◌≤◌, Bool, true, false, List, [], ◌⊎◌, Option, Some, None}
use Rattle.std.specs.List.{list_all}
use Rattle.sw_base.specs.Layout.{has_meter}
use Rattle.sw_base.specs.declared.terms.Source.{Source}
use Rattle.sw_base.specs.declared.terms.Source.TheVariants as source
use Rattle.sw_trigger.specs.Settings.{SettingsSeen, layer_of}
use Rattle.sw_trigger.specs.Counts.{reads}
use Rattle.sw_code.specs.Range.{Program, IsProgramInRange}
use Rattle.sw_code.specs.declared.code.Step.{Step}
use Rattle.sw_code.specs.declared.code.Step.TheVariants as step
use Rattle.sw_verify.specs.declared.refusal.Refusal.{Refusal}
use Rattle.sw_verify.specs.declared.refusal.Refusal.TheVariants.{NoMeter, TooManyReadings, NoMemory, NoSource}
use Rattle.sw_verify.specs.declared.snapshot.Snapshot.{Snapshot}
use Rattle.sw_verify.specs.Channels.{none, is_among}
use Rattle.sw_verify.specs.Items.{items_of}
use Rattle.sw_verify.specs.Nest.{StepsRight}
use Rattle.sw_verify.specs.Stops.{StopsBy}
use Rattle.sw_verify.specs.Runnable.{IsRunnable}
use Rattle.sw_verify.specs.Setup.{running}
use Rattle.sw_verify.specs.Check.{IsReadyBySettings, IsFirst}

-- whether a layer of this source awaits something: with IMMediate the scan leaves it at once (SCPI-1999, 24)
abbrev pub awaits_something : Source → Bool
awaits_something source.Immediate = false
awaits_something source.Bus = true
awaits_something source.External = true
awaits_something source.Hold = true
awaits_something source.Timer = true

-- whether what the step awaits can come
abbrev pub has_source : SettingsSeen → Step → Bool
has_source s (step.Set k n) = true
has_source s (step.Wait layer) = awaits_something (layer_of s layer).source
has_source s (step.Timer layer micros) = true
has_source s (step.Pause micros) = true
has_source s (step.Close p) = true
has_source s step.Read = true
has_source s (step.Open p) = true
has_source s (step.Loop k to) = true
has_source s step.Halt = true

-- what the steps await can come
abbrev pub AreSourced : SettingsSeen → List Step → Type 0
AreSourced s steps = list_all (has_source s) steps ≡ true

-- each step may be done here when it is looked at
abbrev pub MayBeDone : Snapshot → Program → Type 0
MayBeDone p code = StepsRight p.layout code.steps (is_among p.closed) none []

-- Each step of the program may be done here when it is looked at, its meter is there, its readings have room, and what
-- it awaits can come.
pub record IsReadyByProgram (p : Snapshot) (code : Program) : Type 0 where
  pub range : IsProgramInRange code
  pub runnable : IsRunnable code
  pub right : MayBeDone p code
  pub measured : has_meter p.layout code.meter ≡ true
  pub fits : reads (items_of code.steps) ≤ p.settings.scan.points
  pub sourced : AreSourced p.settings.scan code.steps

abbrev pub IsReadyBy : Snapshot → Option Program → Type 0
IsReadyBy p None = IsReadyBySettings p
IsReadyBy p (Some code) = IsReadyByProgram p code

-- the scan may begin
abbrev pub IsReady : Snapshot → Type 0
IsReady p = IsReadyBy p (running p.settings.program)

-- the first cause for which a program may not be run here: a step, the meter, the room, a layer's source
abbrev pub IsFirstOfProgram : Refusal → Snapshot → Program → Type 0
IsFirstOfProgram r p code =
    StopsBy p.layout r code.steps (is_among p.closed) none []
    ⊎ ((MayBeDone p code × (has_meter p.layout code.meter ≡ false) × (r ≡ NoMeter))
    ⊎ ((MayBeDone p code × (has_meter p.layout code.meter ≡ true)
    × (p.settings.scan.points < reads (items_of code.steps)) × (r ≡ TooManyReadings))
    ⊎ (MayBeDone p code × (has_meter p.layout code.meter ≡ true)
    × (reads (items_of code.steps) ≤ p.settings.scan.points)
    × (AreSourced p.settings.scan code.steps → ⊥) × (r ≡ NoSource))))

abbrev pub IsFirstBy : Refusal → Snapshot → Option Program → Type 0
IsFirstBy r p None = IsFirst r p
IsFirstBy r p (Some code) = IsFirstOfProgram r p code

-- the first cause for which a scan may not begin
abbrev pub IsFirstCause : Refusal → Snapshot → Type 0
IsFirstCause r p = IsFirstBy r p (running p.settings.program)

-- The settings don't pass the check, and r is the first refusal that applies; or they do, and memory ran out.
abbrev pub RefusesSettings : Refusal → Snapshot → Type 0
RefusesSettings r p = ((IsReadyBySettings p → ⊥) × IsFirst r p) ⊎ (IsReadyBySettings p × (r ≡ NoMemory))

-- The program may not be run here, and r is the first cause; or memory ran out before that was known.
abbrev pub RefusesProgram : Refusal → Snapshot → Program → Type 0
RefusesProgram r p code = ((IsReadyByProgram p code → ⊥) × IsFirstOfProgram r p code) ⊎ (r ≡ NoMemory)

abbrev pub RefusesBy : Refusal → Snapshot → Option Program → Type 0
RefusesBy r p None = RefusesSettings r p
RefusesBy r p (Some code) = RefusesProgram r p code

-- why a scan may not begin
abbrev pub IsRefusedScan : Refusal → Snapshot → Type 0
IsRefusedScan r p = RefusesBy r p (running p.settings.program)
