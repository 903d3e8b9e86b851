-- Why a code is refused, and which code is not.
use Rattle.std.specs.Prelude.{◌≡◌, ℕ, ◌<◌, true, false, List, [], Some, None, length, ◌⊎◌}
use Rattle.sw_base.specs.Layout.{Layout, has_meter}
use Rattle.sw_trigger.specs.Settings.{SettingsSeen, IsInRange}
use Rattle.sw_trigger.specs.Agenda.{Item, agenda}
use Rattle.sw_trigger.specs.Counts.{reads}
use Rattle.sw_code.specs.Range.{Program}
use Rattle.sw_code.specs.Code.{Unfolds}
use Rattle.sw_code.specs.Compiled.{compiled}
use Rattle.sw_verify.specs.declared.refusal.Refusal.{Refusal}
use Rattle.sw_verify.specs.declared.refusal.Refusal.TheVariants.{NoMeter, TooManyReadings, NoMemory}
use Rattle.sw_verify.specs.Channels.{Channels, none}
use Rattle.sw_verify.specs.Sound.{IsSound}
use Rattle.sw_verify.specs.Nest.{fault_in, StepsRight}
use Rattle.sw_verify.specs.Stops.{StopsBy}

-- the loops are nested, and each step may be done
pub record IsInOrder (layout : Layout) (b : Channels) (code : Program) : Type 0 where
  pub nested : fault_in code.steps 0 [] ≡ None
  pub right : StepsRight layout code.steps b none []

-- what the code unfolds to makes more readings than there is room for
abbrev pub Overflows : ℕ → Program → Type 0
Overflows room code = (items : List Item) × Unfolds code.steps items × (room < reads items)

-- The first cause: the nesting, a step, the meter, the room; or memory ran out.
abbrev pub IsDenied : Layout → Channels → ℕ → Program → Refusal → Type 0
IsDenied layout b room code r =
    (fault_in code.steps 0 [] ≡ Some r)
    ⊎ (((fault_in code.steps 0 [] ≡ None) × StopsBy layout r code.steps b none [])
    ⊎ ((IsInOrder layout b code × (has_meter layout code.meter ≡ false) × (r ≡ NoMeter))
    ⊎ ((IsInOrder layout b code × (has_meter layout code.meter ≡ true) × Overflows room code × (r ≡ TooManyReadings))
    ⊎ (r ≡ NoMemory))))

-- the code is that of settings that pass the check here
pub record IsPlanned (layout : Layout) (b : Channels) (room : ℕ) (code : Program) : Type 0 where
  pub settings : SettingsSeen
  pub range : IsInRange settings
  pub listed : 0 < length settings.list
  pub is_compiled : code ≡ compiled settings
  pub measured : has_meter layout settings.meter ≡ true
  pub sound : IsSound layout b room (agenda settings)
