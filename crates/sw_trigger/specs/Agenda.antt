-- What a scan does, as one list: the ARM-TRIGger model (SCPI-1999, chapter 24) with ARM layers round the TRIGger
-- layer; that they are numbered from the outermost inwards is this instrument's own.
use Rattle.std.specs.Prelude.{ℕ, zero, suc, ◌%◌, ◌==◌, List, [], ◌∷◌, ◌++◌, length, map, take, slice_index_or}
use Rattle.std.specs.Prelude.{if◌then◌else◌}
use Rattle.sw_channel.specs.Positions.{Position}
use Rattle.sw_base.specs.declared.terms.Source.{Source}
use Rattle.sw_base.specs.declared.terms.Source.TheVariants.{Immediate, Bus, External, Hold, Timer}
use Rattle.sw_base.specs.declared.terms.LayerName.{LayerName}
use Rattle.sw_base.specs.declared.terms.LayerName.TheVariants.{Trigger}
use Rattle.sw_trigger.specs.declared.layer.Layer.{Layer}
use Rattle.sw_trigger.specs.declared.layer.Awaited.{Awaited}
use Rattle.sw_trigger.specs.declared.layer.Awaited.TheVariants.{Wait, Period, Pause, Read}
use Rattle.sw_trigger.specs.Settings.{SettingsSeen, NamedLayer, arms_of}

-- one thing that a scan does: it awaits something, or it closes or opens a position
pub data Item : Type 0 where
  Awaits : (what : Awaited) → Item
  Close : (p : Position) → Item
  Open : (p : Position) → Item

-- a list n times over
abbrev pub repeated : {A : Type 0} → ℕ → List A → List A
repeated zero xs = []
repeated (suc n) xs = xs ++ repeated n xs

-- a layer's wait, which an immediate layer leaves out
abbrev pub wait_by : LayerName → Source → ℕ → List Awaited
wait_by name Immediate timer = []
wait_by name Bus timer = Wait name ∷ []
wait_by name External timer = Wait name ∷ []
wait_by name Hold timer = Wait name ∷ []
wait_by name Timer timer = Period name timer ∷ []

abbrev pub wait_of : LayerName → Layer → List Awaited
wait_of name layer = wait_by name layer.source layer.timer_us

-- a pause, which one of 0 leaves out
abbrev pub pause_of : ℕ → List Awaited
pause_of micros = if micros == 0 then [] else Pause micros ∷ []

-- what a layer awaits on each of its turns before the next layer inwards
abbrev pub head_of : LayerName → Layer → List Awaited
head_of name layer = wait_of name layer ++ pause_of layer.delay_us

-- the position of pass number k: the list is read round and round
abbrev pub position_at : List Position → ℕ → Position
position_at list k = slice_index_or list (k % length list) []

-- one position measured: the scan closes it, lets it settle for this many microseconds, reads and opens it
abbrev pub visit : ℕ → Position → List Item
visit settle p = Close p ∷ (map Awaits (pause_of settle) ++ Awaits Read ∷ Open p ∷ [])

-- pass number k of the TRIGger layer
abbrev pub pass_of : SettingsSeen → ℕ → List Item
pass_of s k = map Awaits (head_of Trigger s.trigger) ++ visit s.settle_us (position_at s.list k)

-- n passes from number k on
abbrev pub passes : SettingsSeen → ℕ → ℕ → List Item
passes s k zero = []
passes s k (suc n) = pass_of s k ++ passes s (suc k) n

-- all turns of the ARM layers, the outermost first: on each turn what the layer awaits, then all that is inside it
abbrev pub turns_of : List NamedLayer → List Item → List Item
turns_of [] inside = inside
turns_of (arm ∷ arms) inside = repeated arm.1.count (map Awaits (head_of arm.0 arm.1) ++ turns_of arms inside)

-- all that a scan does, in order; nothing where nothing is listed. Each turn of the inmost ARM layer makes all passes,
-- from the list's first entry on.
abbrev pub agenda : SettingsSeen → List Item
agenda s = if length s.list == 0 then [] else turns_of (arms_of s) (passes s 0 s.trigger.count)

-- the entries that the agenda uses
abbrev pub used_of : SettingsSeen → List Position
used_of s = take s.trigger.count s.list
