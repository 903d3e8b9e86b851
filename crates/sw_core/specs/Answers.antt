-- The texts of answers.
use Rattle.std.specs.Prelude.{◌≡◌, ◌<◌, ℕ, ℤ, pos, Bool, true, false, not, List, [], ◌∷◌, ◌++◌, length, map, codes}
use Rattle.std.specs.Prelude.{Option, Some, None}
use Rattle.std.specs.Fmt.{signed_decimal}
use Rattle.std.specs.List.{join_with_byte, AllByRecursion}
use Rattle.sw_base.specs.Errors.{text_of, code_of}
use Rattle.sw_base.specs.declared.error.ScpiError.{ScpiError}
use Rattle.sw_base.specs.declared.terms.Source.{Source}
use Rattle.sw_base.specs.declared.terms.Source.TheVariants.{Immediate, Bus, External, Hold, Timer}

-- the revision of the instrument and of its cards
abbrev pub revision : List ℕ
revision = codes "1.0"

-- the maker and three more fields, joined by commas: the model or kind, the serial number, the revision (IEEE 488.2,
-- 10.14)
abbrev pub four_fields : List ℕ → List ℕ → List ℕ → List ℕ
four_fields kind serial version = codes "OPENBENCH," ++ (kind ++ 44 ∷ (serial ++ 44 ∷ version))

abbrev pub identity_text : List ℕ
identity_text = four_fields (codes "SWM8") (codes "0") revision

-- the version of SCPI (SCPI-1999, 21.21)
abbrev pub version : List ℕ
version = codes "1999.0"

-- 1 for yes, 0 for no
abbrev pub yes_or_no : Bool → List ℕ
yes_or_no true = 49 ∷ []
yes_or_no false = 48 ∷ []

-- the flag of a channel, closed or not, by whether the query asks for the closed ones or the open ones
abbrev pub as_asked : Bool → Bool → Bool
as_asked true closed = closed
as_asked false closed = not closed

-- an entry of the error queue: its number, a comma, its text in quotes (SCPI-1999, 21.8)
abbrev pub entry : ℤ → List ℕ → List ℕ
entry number text = signed_decimal number ++ 44 ∷ 34 ∷ (text ++ 34 ∷ [])

abbrev pub error_entry : ScpiError → List ℕ
error_entry e = entry (code_of e) (text_of e)

-- what an empty queue answers
abbrev pub no_error : List ℕ
no_error = entry (pos 0) (codes "No error")

-- the text of an entry, or of no entry
abbrev pub entry_told : Option ScpiError → List ℕ
entry_told None = no_error
entry_told (Some e) = error_entry e

-- the oldest entry
abbrev pub oldest_entry : List ScpiError → List ℕ
oldest_entry [] = no_error
oldest_entry (e ∷ errors) = error_entry e

-- all entries, joined by commas
abbrev pub all_entries : List ScpiError → List ℕ
all_entries [] = no_error
all_entries (e ∷ errors) = join_with_byte 44 (map error_entry (e ∷ errors))

-- the short form of a source (SCPI-1999, chapter 24)
abbrev pub source_word : Source → List ℕ
source_word Immediate = codes "IMM"
source_word Bus = codes "BUS"
source_word External = codes "EXT"
source_word Timer = codes "TIM"
source_word Hold = codes "HOLD"

-- the text is these pieces, none of them empty, joined by commas
pub record IsRow (text : List ℕ) (pieces : List (List ℕ)) : Type 0 where
  pub joined : text ≡ join_with_byte 44 pieces
  pub some : AllByRecursion (λ piece. 0 < length piece) pieces

-- one more piece may follow these: where there are any, a comma ends them
abbrev pub IsOpenEnded : List ℕ → List (List ℕ) → Type 0
IsOpenEnded text pieces = (piece : List ℕ) → 0 < length piece → IsRow (text ++ piece) (pieces ++ piece ∷ [])
