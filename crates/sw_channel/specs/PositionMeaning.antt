-- Which positions a list that is written right names, and how it is refused (this instrument's own).
use Rattle.std.specs.Prelude.{◌≡◌, ℕ, Bool, nat_le, List, [], ◌∷◌, ◌++◌, length, map, Option, Some, None, Result, Ok}
use Rattle.std.specs.Prelude.{Err, if◌then◌else◌}
use Rattle.std.specs.Option.{option_map}
use Rattle.sw_base.specs.Layout.{Channel}
use Rattle.sw_base.specs.Limits.{most_entries}
use Rattle.sw_base.specs.declared.error.ScpiError.{ScpiError}
use Rattle.sw_base.specs.declared.error.ScpiError.TheVariants.{DataOutOfRange, TooMuchData}
use Rattle.sw_channel.specs.Grammar.{WrittenChannel, range, PositionItem, joined, single_each, IsPositionList}
use Rattle.sw_channel.specs.Meaning.{channel_of, channels_of, Mean, fitting}
use Rattle.sw_channel.specs.Positions.{Position, IsPosition, is_among, most_joined, alone}

-- Channels that are joined name one position, of one to four different ones; a range names a position of each channel.
abbrev pub NamePositions : PositionItem → List Position → Type 0
NamePositions (joined w ws) ps =
    (p : Position) × (map channel_of (w ∷ ws) ≡ map Some p) × IsPosition p × (ps ≡ p ∷ [])
NamePositions (single_each v w) ps = option_map (map alone) (channels_of (range v w)) ≡ Some ps

-- The text spells the positions, one item or more, however many they are.
abbrev pub SpellsPositions : List ℕ → List Position → Type 0
SpellsPositions text ps = (items : List PositionItem) × IsPositionList text items × Mean NamePositions items ps

-- ---- refusals

-- whether there is no room for one channel more: a position's first one in the list, another one in its position
abbrev pub is_full : ℕ → Position → Bool
is_full count [] = nat_le most_entries count
is_full count (c ∷ p) = nat_le most_joined (length (c ∷ p))

-- a position with the channel that is written next: -222 for none and for one that it has, else -223 for lack of room
abbrev pub with_next : ℕ → Option Channel → Position → Result Position ScpiError
with_next count None p = Err DataOutOfRange
with_next count (Some c) p =
    if is_among p c then Err DataOutOfRange else (if is_full count p then Err TooMuchData else Ok (p ++ c ∷ []))

abbrev pub and_next : ℕ → Result Position ScpiError → Option Channel → Result Position ScpiError
and_next count (Err e) chan = Err e
and_next count (Ok p) chan = with_next count chan p

-- the position of the channels after these, in a list of this many positions, or the first refusal from left to right
abbrev pub position_after : ℕ → Result Position ScpiError → List WrittenChannel → Result Position ScpiError
position_after count r [] = r
position_after count r (w ∷ ws) = position_after count (and_next count r (channel_of w)) ws

abbrev pub position_of_joined : ℕ → List WrittenChannel → Result Position ScpiError
position_of_joined count ws = position_after count (Ok []) ws

abbrev pub one_position : Result Position ScpiError → Result (List Position) ScpiError
one_position (Ok p) = Ok (p ∷ [])
one_position (Err e) = Err e

-- the positions that an item adds to this many, or its first refusal
abbrev pub positions_judged : ℕ → PositionItem → Result (List Position) ScpiError
positions_judged count (joined w ws) = one_position (position_of_joined count (w ∷ ws))
positions_judged count (single_each v w) = fitting count (option_map (map alone) (channels_of (range v w)))
