-- How many things a scan awaits, and how many of them are readings.
use Rattle.std.specs.Prelude.{ℕ, zero, suc, ◌+◌, ◌*◌, List, [], ◌∷◌, ◌++◌, length}
use Rattle.sw_base.specs.declared.terms.LayerName.{LayerName}
use Rattle.sw_base.specs.declared.terms.LayerName.TheVariants.{Trigger}
use Rattle.sw_base.specs.Limits.{most_arm_count, most_trigger_count}
use Rattle.sw_trigger.specs.declared.layer.Layer.{Layer}
use Rattle.sw_trigger.specs.declared.layer.Awaited.{Awaited}
use Rattle.sw_trigger.specs.declared.layer.Awaited.TheVariants.{Wait, Period, Pause, Read}
use Rattle.sw_trigger.specs.Settings.{SettingsSeen, NamedLayer, arms_of}
use Rattle.sw_trigger.specs.Agenda.{Item, Awaits, Close, Open, agenda, head_of, pause_of, repeated}

-- the awaiting items, in order
abbrev pub awaiting : List Item → List Awaited
awaiting [] = []
awaiting (Awaits what ∷ items) = what ∷ awaiting items
awaiting (Close c ∷ items) = awaiting items
awaiting (Open c ∷ items) = awaiting items

abbrev pub is_reading : Awaited → ℕ
is_reading (Wait name) = 0
is_reading (Period name micros) = 0
is_reading (Pause micros) = 0
is_reading Read = 1

-- how many of the items are readings
abbrev pub reads : List Item → ℕ
reads [] = 0
reads (Awaits what ∷ items) = is_reading what + reads items
reads (Close c ∷ items) = reads items
reads (Open c ∷ items) = reads items

-- the events that a scan takes before it is over
abbrev pub bound_of : SettingsSeen → ℕ
bound_of s = length (awaiting (agenda s))

abbrev pub readings_of : SettingsSeen → ℕ
readings_of s = reads (agenda s)

-- what the turns of a layer await, and those of the ARM layers round what is inside them
abbrev pub in_turns : LayerName → Layer → List Awaited → List Awaited
in_turns name layer inside = repeated layer.count (head_of name layer ++ inside)

abbrev pub in_arms : List NamedLayer → List Awaited → List Awaited
in_arms [] inside = inside
in_arms (arm ∷ arms) inside = in_turns arm.0 arm.1 (in_arms arms inside)

-- what is awaited of a position that is closed: that it settles, and its reading
abbrev pub in_visit : ℕ → List Awaited
in_visit settle = pause_of settle ++ Read ∷ []

-- what the passes of one turn of the inmost ARM layer await
abbrev pub in_passes : ℕ → Layer → List Awaited
in_passes settle trigger = in_turns Trigger trigger (in_visit settle)

-- all that a scan awaits, where something is listed
abbrev pub in_scan : SettingsSeen → List Awaited
in_scan s = in_arms (arms_of s) (in_passes s.settle_us s.trigger)

-- how often the scan does something that it does n times on each turn of the inmost of the ARM layers
abbrev pub times : List NamedLayer → ℕ → ℕ
times [] n = n
times (arm ∷ arms) n = arm.1.count * times arms n

-- the most that this many ARM layers round the passes await, and read: on each turn a wait and a pause, and in each
-- pass a reading, and what the closed position awaits before it
abbrev pub most_awaited : ℕ → ℕ → ℕ
most_awaited visited zero = most_trigger_count * (2 + visited)
most_awaited visited (suc arms) = most_arm_count * (2 + most_awaited visited arms)

abbrev pub most_read : ℕ → ℕ
most_read zero = most_trigger_count
most_read (suc arms) = most_arm_count * most_read arms
