-- A channel list, and a list of positions, as it is printed.
use Rattle.std.specs.Prelude.{ℕ, ◌+◌, ◌/◌, ◌%◌, nat_le, ◌≤◌, List, [], ◌∷◌, ◌++◌, if◌then◌else◌}
use Rattle.std.specs.List.{AllByRecursion}
use Rattle.sw_base.specs.Layout.{Channel}
use Rattle.sw_channel.specs.Positions.{Position, IsPosition}
use Rattle.sw_base.specs.Limits.{most_slots, most_channels}

-- a number below 100, with no leading zero
abbrev pub printed_number : ℕ → List ℕ
printed_number c = if nat_le 10 c then (48 + c / 10) ∷ (48 + c % 10) ∷ [] else (48 + c % 10) ∷ []

-- `s!c`
abbrev pub printed_channel : Channel → List ℕ
printed_channel c = printed_number c.0 ++ 33 ∷ printed_number c.1

-- each after a mark
abbrev pub printed_after : {V : Type 0} → ℕ → (V → List ℕ) → List V → List ℕ
printed_after mark each [] = []
printed_after mark each (v ∷ vs) = mark ∷ (each v ++ printed_after mark each vs)

-- joined by a mark
abbrev pub printed_joined : {V : Type 0} → ℕ → (V → List ℕ) → List V → List ℕ
printed_joined mark each [] = []
printed_joined mark each (v ∷ vs) = each v ++ printed_after mark each vs

-- joined by commas between `(@` and `)`, also where there is none
abbrev pub bracketed : {V : Type 0} → (V → List ℕ) → List V → List ℕ
bracketed each vs = 40 ∷ 64 ∷ (printed_joined 44 each vs ++ 41 ∷ [])

abbrev pub printed : List Channel → List ℕ
printed = bracketed printed_channel

-- channels joined by `&`
abbrev pub printed_position : Position → List ℕ
printed_position = printed_joined 38 printed_channel

abbrev pub printed_positions : List Position → List ℕ
printed_positions = bracketed printed_position

-- the cage's slots and a card's channels are numbered from 1
abbrev pub InRange : Channel → Type 0
InRange c = (1 ≤ c.0) × (c.0 ≤ most_slots) × (1 ≤ c.1) × (c.1 ≤ most_channels)

-- a position of such channels
abbrev pub IsPrintable : Position → Type 0
IsPrintable p = IsPosition p × AllByRecursion InRange p
