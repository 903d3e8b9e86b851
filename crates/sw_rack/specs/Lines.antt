-- On which line of a text something is.
use Rattle.std.specs.Prelude.{◌≡◌, ℕ, ◌+◌, ◌-◌, ◌<◌, ◌==◌, Bool, true, false, List, [], ◌∷◌, length, take, drop, Option}
use Rattle.std.specs.Prelude.{Some, None, is_some, codes, string_bytes, if◌then◌else◌}
use Rattle.std.specs.List.{count_by}
use Rattle.std.specs.Str.{is_utf8}
use Rattle.toml.specs.Data.{Data, table, Members, get_member}
use Rattle.toml.specs.Parse.{parse_document}
use Rattle.sw_rack.specs.declared.cause.Cause.{Cause}
use Rattle.sw_rack.specs.declared.cause.Cause.TheVariants as causes
use Rattle.sw_rack.specs.declared.cause.Choice.TheVariants as choices
use Rattle.sw_rack.specs.declared.rack_fault.RackFault.{RackFault}
use Rattle.sw_rack.specs.declared.key.Key.TheVariants as keys
use Rattle.sw_rack.specs.Keys.{name_of}
use Rattle.sw_rack.specs.Templates.{decimal}

-- the line of a place, from 1: one more than the line feeds before it
abbrev pub line_at : List ℕ → ℕ → ℕ
line_at text place = 1 + count_by (λ byte. byte == 10) (take place text)

-- where each line ends that begins in the text, its line feed left out
abbrev pub ends_from : ℕ → List ℕ → List ℕ
ends_from place [] = place ∷ []
ends_from place (byte ∷ bytes) = if byte == 10 then place ∷ ends_from (place + 1) bytes else ends_from (place + 1) bytes

-- ---- what a fault is about

-- a key of the file
abbrev pub key_of_file : Cause → List ℕ → List ℕ
key_of_file causes.Stranger word = word
key_of_file causes.Version word = codes "version"
key_of_file cause word = codes "slot"

-- a key of a slot, or the slot itself
abbrev pub key_of_slot : Cause → List ℕ → Option (List ℕ)
key_of_slot causes.Unknown word = Some word
key_of_slot (causes.Stray form) word = Some word
key_of_slot (causes.Mistyped key wanted) word = Some (name_of key)
key_of_slot (causes.Range key low high found) word = Some (name_of key)
key_of_slot (causes.Empty key) word = Some (name_of key)
key_of_slot (causes.Template key) word = Some (name_of key)
key_of_slot (causes.Word choices.Card) word = Some (name_of keys.Card)
key_of_slot (causes.Word choice) word = Some (name_of keys.Driver)
key_of_slot (causes.Groups groups channels) word = Some (name_of keys.Groups)
key_of_slot (causes.Coil address) word = Some (name_of keys.FirstCoil)
key_of_slot cause word = None

-- what a key of a table has, where it is a table
abbrev pub under : List ℕ → Option Data → Option Data
under name (Some (table ms)) = get_member name ms
under name d = None

abbrev pub has : Option (List ℕ) → Option Data → Bool
has None d = is_some d
has (Some name) d = is_some (under name d)

-- the table has what the fault is about
abbrev pub shows_in : Option ℕ → Cause → List ℕ → Members → Bool
shows_in None causes.NoSuchSlot word ms = has (Some word) (get_member (codes "slot") ms)
shows_in None cause word ms = is_some (get_member (key_of_file cause word) ms)
shows_in (Some slot) cause word ms = has (key_of_slot cause word) (under (decimal slot) (get_member (codes "slot") ms))

unfoldable pub shows : RackFault → Members → Bool
shows fault ms = shows_in fault.slot fault.cause (string_bytes fault.word) ms

-- ---- its line

-- bytes as TOML
abbrev pub front_table : List ℕ → Option Members
front_table bytes = if is_utf8 bytes then parse_document bytes else None

abbrev pub shown_by : RackFault → Option Members → Bool → Bool
shown_by fault None later = later
shown_by fault (Some ms) later = shows fault ms

-- of the fronts of the text that end so, the first one that is TOML shows it
unfoldable pub first_shown : RackFault → List ℕ → List ℕ → Bool
first_shown fault text [] = false
first_shown fault text (end ∷ ends) = shown_by fault (front_table (take end text)) (first_shown fault text ends)

-- the fronts of the text that have this line, from 1, or more
abbrev pub shown_at : RackFault → List ℕ → ℕ → Bool
shown_at fault text line = first_shown fault text (drop (line - 1) (ends_from 0 text))

-- the line on which it begins: fronts with that line show it, and fronts with one line fewer don't; 0 where the whole
-- text doesn't show it
pub record IsLine (fault : RackFault) (text : List ℕ) (line : ℕ) : Type 0 where
  pub shown : 0 < line → shown_at fault text line ≡ true
  pub hidden : 1 < line → shown_at fault text (line - 1) ≡ false
  pub never : line ≡ 0 → shown_at fault text (length (ends_from 0 text)) ≡ false
