-- When a scan of settings may begin, and why not.
use Rattle.std.specs.Prelude.{◌≡◌, ℕ, ◌<◌, true, false, List, [], ◌∷◌, length, codes, Any, ◌⊎◌}
use Rattle.sw_channel.specs.Positions.{Position}
use Rattle.sw_base.specs.Layout.{Channel, Layout, is_present, has_meter, IsClash}
use Rattle.sw_base.specs.declared.error.ScpiError.{ScpiError}
use Rattle.sw_base.specs.declared.error.ScpiError.TheVariants.{SettingsConflict, HardwareMissing, OutOfMemory}
use Rattle.sw_trigger.specs.Agenda.{used_of}
use Rattle.sw_trigger.specs.Agenda as settled
use Rattle.sw_trigger.specs.Counts.{readings_of}
use Rattle.sw_verify.specs.declared.refusal.Refusal.{Refusal}
use Rattle.sw_verify.specs.declared.refusal.Refusal.TheVariants.{EmptyList, NoChannel, NoMeter, GroupClash}
use Rattle.sw_verify.specs.declared.refusal.Refusal.TheVariants.{TooManyReadings}
use Rattle.sw_verify.specs.declared.refusal.Refusal.TheVariants.{BadNesting, BadJump, LeftClosed, NotClosed}
use Rattle.sw_verify.specs.declared.refusal.Refusal.TheVariants.{NoMemory, NoSource}
use Rattle.sw_verify.specs.declared.snapshot.Snapshot.{Snapshot}
use Rattle.sw_verify.specs.Channels.{Channels, is_among, with_channel}
use Rattle.sw_verify.specs.Sound.{IsSound}

-- the scan of the settings has entries and a meter, and its agenda is sound here
pub record IsReadyBySettings (p : Snapshot) : Type 0 where
  pub listed : 0 < length p.settings.scan.list
  pub measured : has_meter p.layout p.settings.scan.meter ≡ true
  pub sound : IsSound p.layout (is_among p.closed) p.settings.scan.points (settled.agenda p.settings.scan)

-- the channel is closed already, or shares a nonzero group with a closed one of any slot
abbrev pub IsBlocked : Layout → Channels → Channel → Type 0
IsBlocked layout closed c = (closed c ≡ true) ⊎ ((x : Channel) × (closed x ≡ true) × IsClash layout c x)

-- a channel of the position is blocked, with those before it closed then
abbrev pub IsBlockedAt : Layout → Channels → Position → Type 0
IsBlockedAt layout closed [] = ⊥
IsBlockedAt layout closed (c ∷ p) = IsBlocked layout closed c ⊎ IsBlockedAt layout (with_channel c closed) p

-- what is wrong by each refusal of a snapshot; the other refusals are of scan code alone
abbrev pub Faulty : Refusal → Snapshot → Type 0
Faulty EmptyList p = p.settings.scan.list ≡ []
Faulty NoChannel p = Any (Any (λ c. is_present p.layout c ≡ false)) (used_of p.settings.scan)
Faulty NoMeter p = has_meter p.layout p.settings.scan.meter ≡ false
Faulty GroupClash p = Any (IsBlockedAt p.layout (is_among p.closed)) (used_of p.settings.scan)
Faulty TooManyReadings p = p.settings.scan.points < readings_of p.settings.scan
Faulty BadNesting p = ⊥
Faulty BadJump p = ⊥
Faulty LeftClosed p = ⊥
Faulty NotClosed p = ⊥
Faulty NoMemory p = ⊥
Faulty NoSource p = ⊥

abbrev pub refusal_number : Refusal → ℕ
refusal_number EmptyList = 1
refusal_number NoChannel = 2
refusal_number NoMeter = 3
refusal_number GroupClash = 4
refusal_number TooManyReadings = 5
refusal_number BadNesting = 6
refusal_number BadJump = 7
refusal_number LeftClosed = 8
refusal_number NotClosed = 9
refusal_number NoMemory = 10
refusal_number NoSource = 11

abbrev pub refusal_name : Refusal → List ℕ
refusal_name EmptyList = codes "EmptyList"
refusal_name NoChannel = codes "NoChannel"
refusal_name NoMeter = codes "NoMeter"
refusal_name GroupClash = codes "GroupClash"
refusal_name TooManyReadings = codes "TooManyReadings"
refusal_name BadNesting = codes "BadNesting"
refusal_name BadJump = codes "BadJump"
refusal_name LeftClosed = codes "LeftClosed"
refusal_name NotClosed = codes "NotClosed"
refusal_name NoMemory = codes "NoMemory"
refusal_name NoSource = codes "NoSource"

-- the refusal applies, and none with a lower number does
pub record IsFirst (r : Refusal) (p : Snapshot) : Type 0 where
  pub applies : Faulty r p
  pub none_before : (q : Refusal) → refusal_number q < refusal_number r → Faulty q p → ⊥

abbrev pub error_of : Refusal → ScpiError
error_of EmptyList = SettingsConflict
error_of NoChannel = HardwareMissing
error_of NoMeter = HardwareMissing
error_of GroupClash = SettingsConflict
error_of TooManyReadings = SettingsConflict
error_of BadNesting = SettingsConflict
error_of BadJump = SettingsConflict
error_of LeftClosed = SettingsConflict
error_of NotClosed = SettingsConflict
error_of NoMemory = OutOfMemory
error_of NoSource = SettingsConflict
