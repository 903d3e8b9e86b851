-- Which channels a list that is written right names, and how it is refused.
use Rattle.std.specs.Prelude.{◌≡◌, ℕ, ◌+◌, ◌-◌, ◌*◌, ◌/◌, ◌%◌, nat_lt, nat_le, ◌==◌, ◌&&◌, List, [], ◌∷◌, ◌++◌, length}
use Rattle.std.specs.Prelude.{map, Option, Some, None, Result, Ok, Err, if◌then◌else◌}
use Rattle.std.specs.List.{range_with_len}
use Rattle.std.specs.Option.{option_and_then}
use Rattle.sw_base.specs.Layout.{Channel}
use Rattle.sw_base.specs.Limits.{most_slots, most_channels, most_entries}
use Rattle.sw_base.specs.declared.error.ScpiError.{ScpiError}
use Rattle.sw_base.specs.declared.error.ScpiError.TheVariants.{DataOutOfRange, TooMuchData}
use Rattle.sw_channel.specs.Grammar.{WrittenChannel, plain, pair, ListItem, one, range, IsList}

-- ---- channels

-- the number that digits write, after what is read so far
abbrev pub number_from : ℕ → List ℕ → ℕ
number_from n [] = n
number_from n (d ∷ ds) = number_from (10 * n + (d - 48)) ds

-- Of more than nine digits, leading zeros counted, there is none.
abbrev pub short_number : List ℕ → Option ℕ
short_number digits = if nat_lt 9 (length digits) then None else Some (number_from 0 digits)

-- the cage's slots and a card's channels are numbered from 1
abbrev pub channel_numbered : ℕ → ℕ → Option Channel
channel_numbered s c =
    if nat_le 1 s && nat_le s most_slots && nat_le 1 c && nat_le c most_channels then Some ((s, c)) else None

-- a plain n is channel n mod 100 of slot n div 100
abbrev pub channel_of : WrittenChannel → Option Channel
channel_of (plain n) = option_and_then (λ k. channel_numbered (k / 100) (k % 100)) (short_number n)
channel_of (pair s c) =
    option_and_then (λ i. option_and_then (λ k. channel_numbered i k) (short_number c)) (short_number s)

-- ---- ranges

-- the number k places from the first towards the last
abbrev pub towards : ℕ → ℕ → ℕ → ℕ
towards first last k = if nat_le first last then first + k else first - k

-- how many numbers there are from one to the other, both counted
abbrev pub count_between : ℕ → ℕ → ℕ
count_between first last = (last - first) + (first - last) + 1

-- every channel of a slot from the first to the last, downwards where the first is greater
abbrev pub channels_between : ℕ → ℕ → ℕ → List Channel
channels_between slot first last = map (λ k. (slot, towards first last k)) (range_with_len 0 (count_between first last))

-- both ends of a range lie in one slot
abbrev pub range_of : Channel → Channel → Option (List Channel)
range_of a b = if a.0 == b.0 then Some (channels_between a.0 a.1 b.1) else None

-- ---- lists

-- what an item names
abbrev pub channels_of : ListItem → Option (List Channel)
channels_of (one w) = option_and_then (λ c. Some (c ∷ [])) (channel_of w)
channels_of (range v w) = option_and_then (λ a. option_and_then (λ b. range_of a b) (channel_of w)) (channel_of v)

-- An item names these channels.
abbrev pub Names : ListItem → List Channel → Type 0
Names i cs = channels_of i ≡ Some cs

-- The items name the entries, in order and with repeats.
abbrev pub Mean : {I V : Type 0} → (I → List V → Type 0) → List I → List V → Type 0
Mean NamesEach [] vs = vs ≡ []
Mean {I} {V} NamesEach (i ∷ is) vs = (first : List V) × (others : List V) × NamesEach i first
    × Mean NamesEach is others
    × (vs ≡ first ++ others)

-- The text spells the channels, one item or more, however many they are.
abbrev pub Spells : List ℕ → List Channel → Type 0
Spells text cs = (items : List ListItem) × IsList text items × Mean Names items cs

-- ---- refusals

-- the values to add to this many entries: nothing valid is -222, one too many is -223
abbrev pub fitting : {V : Type 0} → ℕ → Option (List V) → Result (List V) ScpiError
fitting count None = Err DataOutOfRange
fitting count (Some vs) = if nat_le (count + length vs) most_entries then Ok vs else Err TooMuchData

-- the channels that an item adds to this many, or its refusal
abbrev pub channels_judged : ℕ → ListItem → Result (List Channel) ScpiError
channels_judged count i = fitting count (channels_of i)

-- the entries in front with those of an item, and the outcome of the others
abbrev pub judged_with : {V : Type 0} → List V → Result (List V) ScpiError → (List V → Result (List V) ScpiError)
    → Result (List V) ScpiError
judged_with front (Err e) rest = Err e
judged_with front (Ok vs) rest = rest (front ++ vs)

-- the entries of the items after those in front, or the first refusal from left to right
abbrev pub judged : {I V : Type 0} → (ℕ → I → Result (List V) ScpiError) → List V → List I
    → Result (List V) ScpiError
judged judge front [] = Ok front
judged judge front (i ∷ is) = judged_with front (judge (length front) i) (λ more. judged judge more is)
