-- What is closed while a scan runs.
use Rattle.std.specs.Prelude.{◌≡◌, ℕ, List, take, ◌⊎◌}
use Rattle.sw_base.specs.Layout.{Channel}
use Rattle.sw_channel.specs.Positions.{Position}
use Rattle.sw_trigger.specs.Agenda.{position_at}
use Rattle.sw_verify.specs.Setup.{agenda}
use Rattle.sw_verify.specs.declared.snapshot.Snapshot.{Snapshot}
use Rattle.sw_verify.specs.Channels.{Channels, is_among, with_each}
use Rattle.sw_verify.specs.Sound.{effect}

-- what was closed at the start
abbrev pub found : Snapshot → Channels
found p = is_among p.closed

-- what is closed after the first i items
abbrev pub closed_after : Snapshot → ℕ → Channels
closed_after p i = effect (found p) (take i (agenda p.settings))

-- the position of some pass through the list
abbrev pub IsListed : List Position → Position → Type 0
IsListed list p = (k : ℕ) × (p ≡ position_at list k)

-- the same channels, or these and those of one such position more
abbrev pub AtMostOneMore : (Position → Type 0) → Channels → Channels → Type 0
AtMostOneMore Of before now =
    ((x : Channel) → now x ≡ before x) ⊎ ((p : Position) × Of p × ((x : Channel) → now x ≡ with_each p before x))
