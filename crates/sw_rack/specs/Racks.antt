-- What a file means: the cards of a rack, or its first fault.
use Rattle.std.specs.Prelude.{◌≡◌, ℕ, zero, suc, ◌+◌, ◌==◌, ◌||◌, ℤ, pos, negsuc, Bool, false, List, []}
use Rattle.std.specs.Prelude.{◌++◌, map, Option, Some, None, Result, Ok, Err, codes, string_bytes, if◌then◌else◌}
use Rattle.std.specs.Option.{option_to_list}
use Rattle.std.specs.Str.{bytes_eq}
use Rattle.toml.specs.Data.{Data, integer, table, Members, no_members, member, get_member, type_name}
use Rattle.toml.specs.Parse.{parse_document}
use Rattle.toml.specs.Errors.{span_start}
use Rattle.sw_base.specs.Limits.{most_slots}
use Rattle.sw_rack.specs.declared.cause.Cause.TheVariants as causes
use Rattle.sw_rack.specs.declared.rack_fault.RackFault.{RackFault}
use Rattle.sw_rack.specs.declared.fault.TableError.{TableError}
use Rattle.sw_rack.specs.declared.fault.TableError.TheVariants as errors
use Rattle.sw_rack.specs.declared.fault.RackError.{RackError}
use Rattle.sw_rack.specs.declared.fault.RackError.TheVariants as outcomes
use Rattle.sw_rack.specs.declared.cause.ReadError.{ReadError}
use Rattle.sw_rack.specs.declared.cause.ReadError.TheVariants as reading
use Rattle.sw_rack.specs.declared.rack.Rack.{Rack}
use Rattle.sw_rack.specs.Reading.{Miss, ◌>>=◌}
use Rattle.sw_rack.specs.Templates.{decimal}
use Rattle.sw_rack.specs.Seen.{CardSeen, card_seen}
use Rattle.sw_rack.specs.Cards.{card_of}
use Rattle.sw_rack.specs.Lines.{IsLine, line_at}

-- a fault, and of which slot it is, if it is one's
abbrev pub Fault : Type 0
Fault = Option ℕ × Miss

abbrev pub placed : {A : Type 0} → Option ℕ → Result A Miss → Result A Fault
placed slot (Ok x) = Ok x
placed slot (Err miss) = Err (slot, miss)

-- ---- the file's own keys

abbrev pub all_known : Members → Result (Unit {0}) Miss
all_known no_members = Ok tt
all_known (member name d ms) =
    if bytes_eq name (codes "version") || bytes_eq name (codes "slot") then all_known ms
    else Err (causes.Stranger, name)

abbrev pub is_one : ℤ → Bool
is_one (pos n) = n == 1
is_one (negsuc n) = false

abbrev pub version_one : Option Data → Result (Unit {0}) Miss
version_one (Some (integer z)) = if is_one z then Ok tt else Err (causes.Version, [])
version_one d = Err (causes.Version, [])

-- ---- slots

-- the name of one of this many slots, from this one on, without zeros in front
abbrev pub is_slot : ℕ → ℕ → List ℕ → Bool
is_slot zero slot name = false
is_slot (suc more) slot name = bytes_eq (decimal slot) name || is_slot more (slot + 1) name

abbrev pub all_slots : Members → Result (Unit {0}) Miss
all_slots no_members = Ok tt
all_slots (member name d ms) = if is_slot most_slots 1 name then all_slots ms else Err (causes.NoSuchSlot, name)

-- there is a card
abbrev pub filled : Members → Result Members Miss
filled no_members = Err (causes.NoCard, [])
filled (member name d ms) = Ok (member name d ms)

abbrev pub slots_in : Option Data → Result Members Miss
slots_in None = Err (causes.NoCard, [])
slots_in (Some (table ms)) = filled ms
slots_in (Some d) = Err (causes.NoTable, type_name d)

-- what a slot has
abbrev pub card_at : ℕ → Option Data → Result (Option CardSeen) Fault
card_at slot None = Ok None
card_at slot (Some d) = placed (Some slot) (card_of slot d) >>= λ card. Ok (Some card)

-- the cards of this many slots from this one on
unfoldable pub cards_from : ℕ → ℕ → Members → Result (List CardSeen) Fault
cards_from zero slot slots = Ok []
cards_from (suc more) slot slots = do
  here ← card_at slot (get_member (decimal slot) slots)
  others ← cards_from more (slot + 1) slots
  Ok (option_to_list here ++ others)

-- ---- the file

-- what is wrong with the file before any card is looked at; else its slots
unfoldable pub slots_of : Members → Result Members Miss
slots_of ms = do
  known ← all_known ms
  version ← version_one (get_member (codes "version") ms)
  slots ← slots_in (get_member (codes "slot") ms)
  fine ← all_slots slots
  Ok slots

unfoldable pub rack_of : Members → Result (List CardSeen) Fault
rack_of ms = placed None (slots_of ms) >>= cards_from most_slots 1

-- ---- what functions return

abbrev pub fault_seen : RackFault → Fault
fault_seen f = (f.slot, (f.cause, string_bytes f.word))

-- what a function returned, seen by view, is what the definition gives, unless memory ran out
abbrev pub FailsBy : {Y : Type 0} → TableError → Result Y Fault → Type 0
FailsBy errors.Memory read = Unit {0}
FailsBy (errors.Fault fault) read = read ≡ Err (fault_seen fault)

abbrev pub Finds : {X Y : Type 0} → (X → Y) → Result X TableError → Result Y Fault → Type 0
Finds view (Ok x) read = read ≡ Ok (view x)
Finds view (Err e) read = FailsBy e read

-- the error with its slot
abbrev pub IsPlaced : Option ℕ → ReadError → TableError → Type 0
IsPlaced slot reading.Memory placed = placed ≡ errors.Memory
IsPlaced slot (reading.Fault cause word) errors.Memory = ⊥
IsPlaced slot (reading.Fault cause word) (errors.Fault fault) =
    (fault.slot ≡ slot) × (fault.cause ≡ cause) × (fault.word ≡ word)

-- ---- a text

abbrev pub rack_seen : Rack → List CardSeen
rack_seen rack = map card_seen rack.cards.items

-- the text is TOML that means this rack
pub record Describes (text : List ℕ) (rack : Rack) : Type 0 where
  pub document : Members
  pub parsed : parse_document text ≡ Some document
  pub meant : rack_of document ≡ Ok (rack_seen rack)

-- the text is TOML that has this fault
pub record HasFault (text : List ℕ) (fault : RackFault) : Type 0 where
  pub document : Members
  pub parsed : parse_document text ≡ Some document
  pub meant : rack_of document ≡ Err (fault_seen fault)

abbrev pub Refuses : List ℕ → RackError → Type 0
Refuses text outcomes.Memory = Unit {0}
Refuses text (outcomes.Syntax line error) =
    (line ≡ line_at text (span_start error)) × (parse_document text ≡ None)
Refuses text (outcomes.Fault line fault) = HasFault text fault × IsLine fault text line
