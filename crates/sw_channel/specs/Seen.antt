-- What was read of a text, without where it lies in memory.
use Rattle.std.specs.Prelude.{◌≡◌, ℕ, ◌<◌, Bool, true, ◌==◌, ◌||◌, List, [], ◌++◌, ◌∷◌, length, Option, Result, Ok}
use Rattle.std.specs.Prelude.{Err, ◌⊎◌, IfOk, map}
use Rattle.std.specs.Option.{option_map}
use Rattle.std.specs.Result.{result_map_both}
use Rattle.sw_base.specs.Layout.{Channel}
use Rattle.sw_base.specs.Text.{is_digit, Spans}
use Rattle.sw_base.specs.declared.error.ScpiError.{ScpiError}
use Rattle.sw_base.specs.declared.error.ScpiError.TheVariants.{InvalidExpression, OutOfMemory}
use Rattle.sw_channel.specs.Grammar.{WrittenChannel, ListItem, IsItems, PositionItem, IsPositionItems}
use Rattle.sw_channel.specs.Meaning.{short_number, channel_of, channels_of, channels_between, judged, channels_judged}
use Rattle.sw_channel.specs.Positions.{Position, alone}
use Rattle.sw_channel.specs.PositionMeaning.{position_of_joined, positions_judged}
use Rattle.sw_channel.specs.declared.run.Run.{Run}
use Rattle.sw_channel.specs.declared.entry.Entry.{Entry}
use Rattle.sw_channel.specs.declared.entry.Entry.TheVariants.{Joined, Range}
use Rattle.sw_channel.specs.declared.collect.Found.{Found}

-- ---- parts at the front of a text

-- the marks that may follow an item, a channel and a number
abbrev pub ends_item : ℕ → Bool
ends_item b = b == 44

abbrev pub ends_channel : ℕ → Bool
ends_channel b = b == 38 || b == 58 || ends_item b

abbrev pub ends_number : ℕ → Bool
ends_number b = b == 33 || ends_channel b

-- nothing is there, or a byte that passes the test
abbrev pub EndsBy : (ℕ → Bool) → List ℕ → Type 0
EndsBy test [] = Unit {0}
EndsBy test (b ∷ bytes) = test b ≡ true

-- a part at the front of a text, what it means, and what follows it; any part there up to an end is this one
pub record LeadsPart {W M : Type 0} (Part : List ℕ → W → Type 0) (ends : ℕ → Bool) (Means : W → M → Type 0)
    (text : List ℕ) (meant : M) (rest : List ℕ) : Type 0 where
  pub front : List ℕ
  pub written : W
  pub part : Part front written
  pub means : Means written meant
  pub whole : text ≡ front ++ rest
  pub only : (other tail : List ℕ) (w : W) → Part other w → EndsBy ends tail → text ≡ other ++ tail → tail ≡ rest

-- the text begins with no part up to an end
abbrev pub LeadsNone : {W : Type 0} → (List ℕ → W → Type 0) → (ℕ → Bool) → List ℕ → Type 0
LeadsNone {W} Part ends text =
    (other tail : List ℕ) (w : W) → Part other w → EndsBy ends tail → text ≡ other ++ tail → ⊥

-- ---- what they mean

abbrev pub MeansNumber : List ℕ → Option ℕ → Type 0
MeansNumber digits number = number ≡ short_number digits

-- digits at the front, their number, and what follows them
abbrev pub LeadsDigits : List ℕ → Option ℕ → List ℕ → Type 0
LeadsDigits text number rest = (digits : List ℕ) × Spans is_digit text digits rest × (0 < length digits)
    × MeansNumber digits number

abbrev pub MeansChannel : WrittenChannel → Option Channel → Type 0
MeansChannel written chan = chan ≡ channel_of written

-- the channels of a run
abbrev pub channels_in : Run → List Channel
channels_in run = channels_between run.first.0 run.first.1 run.last.1

-- an item that names one channel, or none that is right
abbrev pub MeansSingle : ListItem → Option Channel → Type 0
MeansSingle item chan = channels_of item ≡ option_map (λ c. c ∷ []) chan

abbrev pub MeansRun : ListItem → Option Run → Type 0
MeansRun item run = channels_of item ≡ option_map channels_in run

-- joined channels, and the position of them in a list of this many, or their refusal
abbrev pub MeansJoined : ℕ → List WrittenChannel → Result Position ScpiError → Type 0
MeansJoined count written position = position_of_joined count written ≡ position

-- the positions of an entry
abbrev pub positions_in : Entry → List Position
positions_in (Joined position) = position ∷ []
positions_in (Range run) = map alone (channels_in run)

abbrev pub entry_seen : Result Entry ScpiError → Result (List Position) ScpiError
entry_seen r = result_map_both positions_in (λ e. e) r

abbrev pub MeansEntry : ℕ → PositionItem → Result Entry ScpiError → Type 0
MeansEntry count item entry = positions_judged count item ≡ entry_seen entry

-- ---- lists

-- What is found of the first items, their entries or a refusal, and what is left of them lead to this.
abbrev pub LeadsTo : {I V : Type 0} → (ℕ → I → Result (List V) ScpiError) → Result (Found V) ScpiError → List I
    → Result (List V) ScpiError → Type 0
LeadsTo {I} {V} judge (Ok found) items all = (front : List V) × (length front ≡ found.count)
    × IfOk found.entries (λ v. v.items ≡ front) × (judged judge front items ≡ all)
LeadsTo judge (Err e) items all = all ≡ Err e

-- one more item leads from what was found before it to what is found with it
abbrev pub TakesItem : {I V : Type 0} → (ℕ → I → Result (List V) ScpiError) → Result (Found V) ScpiError → I
    → Result (Found V) ScpiError → Type 0
TakesItem {I} {V} judge before item after = (items : List I) (all : Result (List V) ScpiError)
    → LeadsTo judge before (item ∷ items) all → LeadsTo judge after items all

-- what is found of all items: these entries, or this refusal
abbrev pub IsFound : {V : Type 0} → Result (Found V) ScpiError → Result (List V) ScpiError → Type 0
IsFound {V} (Ok found) all = (front : List V) × IfOk found.entries (λ v. v.items ≡ front) × (all ≡ Ok front)
IsFound (Err e) all = all ≡ Err e

-- the answer that is due, or lack of memory where entries are due
abbrev pub AnswersDue : {V : Type 0} → Result (List V) ScpiError → Result (List V) ScpiError → Type 0
AnswersDue {V} due r = (r ≡ due) ⊎ ((r ≡ Err OutOfMemory) × ((vs : List V) × (due ≡ Ok vs)))

-- the entries that the items name or their first refusal, or -171 where the text is no items
abbrev pub Gathers : {I V : Type 0} → (List ℕ → List I → Type 0) → (ℕ → I → Result (List V) ScpiError) → List ℕ
    → Result (List V) ScpiError → Type 0
Gathers {I} {V} Items judge text r = (((is : List I) → Items text is → ⊥) × (r ≡ Err InvalidExpression))
    ⊎ ((is : List I) × Items text is × AnswersDue (judged judge [] is) r)

abbrev pub GathersChannels : List ℕ → Result (List Channel) ScpiError → Type 0
GathersChannels = Gathers IsItems channels_judged

abbrev pub GathersPositions : List ℕ → Result (List Position) ScpiError → Type 0
GathersPositions = Gathers IsPositionItems positions_judged
