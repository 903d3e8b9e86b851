-- What data mean: numbers with their suffixes, and words (IEEE 488.2, 7.7; SCPI-1999, volume 1, 7 and 21.8).
use Rattle.std.specs.Prelude.{◌≡◌, ℕ, Bool, true, false, nat_lt, nat_le, ◌&&◌, ◌||◌, List, [], ◌∷◌, map, codes, ℤ, pos}
use Rattle.std.specs.Prelude.{neg_ℤ, unsigned_abs, Result, Ok, Err, Option, Some, None, ◌⊎◌, if◌then◌else◌}
use Rattle.std.specs.Char.{to_ascii_uppercase}
use Rattle.std.specs.Result.{result_map_both}
use Rattle.sw_base.specs.Text.{is_blank, is_digit, is_letter, AllPass, Spans}
use Rattle.sw_base.specs.Limits.{longest_delay}
use Rattle.sw_base.specs.Number.{Written, IsNumber, IsInLimits, IsRefusedNumber, rounded, in_range, tens_of, in_u64}
use Rattle.sw_base.specs.declared.error.ScpiError.{ScpiError}
use Rattle.sw_base.specs.declared.error.ScpiError.TheVariants.{InvalidCharacterInNumber, InvalidSuffix}
use Rattle.sw_base.specs.declared.error.ScpiError.TheVariants.{SuffixNotAllowed, InvalidCharacterData}
use Rattle.sw_base.specs.declared.error.ScpiError.TheVariants.{InvalidStringData, InvalidBlockData, DataOutOfRange}
use Rattle.sw_base.specs.declared.error.ScpiError.TheVariants.{IllegalParameterValue, OutOfMemory}
use Rattle.sw_base.specs.declared.number.Unit.{Unit as TimeUnit}
use Rattle.sw_base.specs.declared.number.Unit.TheVariants.{S, Ms, Us}
use Rattle.sw_base.specs.declared.terms.LayerName.{LayerName}
use Rattle.sw_base.specs.declared.terms.Source.{Source}
use Rattle.sw_base.specs.declared.terms.Source.TheVariants as sources
use Rattle.sw_lex.specs.declared.command.Command.{Command}
use Rattle.sw_lex.specs.declared.command.Command.TheVariants as commands
use Rattle.sw_lex.specs.declared.command.MacroCommand.TheVariants as macros
use Rattle.sw_lex.specs.declared.command.Setting.TheVariants as settings
use Rattle.sw_lex.specs.declared.command.Time.{Time}
use Rattle.sw_lex.specs.declared.table.Numeric.{Numeric}
use Rattle.sw_lex.specs.declared.table.Switch.{Switch}
use Rattle.sw_lex.specs.declared.table.Switch.TheVariants as switches
use Rattle.sw_lex.specs.Elements.{IsString, IsBlock}
use Rattle.sw_lex.specs.Apart.{same_word}
use Rattle.sw_lex.specs.Words.{short_of, long_of}
use Rattle.sw_lex.specs.Commands.{of_whole, least, greatest, least_micros}

-- the answer, and from it the next one; an error stays
abbrev pub on_ok : {A B : Type 0} → Result A ScpiError → (A → Result B ScpiError) → Result B ScpiError
on_ok (Ok x) next = next x
on_ok (Err e) next = Err e

-- ---- numbers

-- a number, then a suffix of letters or of none, and nothing else
pub record IsQuantity (text : List ℕ) (n : Written) (suffix : List ℕ) : Type 0 where
  pub rest : List ℕ
  pub gap : List ℕ
  pub number : IsNumber text n rest
  pub blank : Spans is_blank rest gap suffix
  pub letters : AllPass is_letter suffix

-- The text is a number and its suffix; or it is refused as no such thing, and else by the number's own refusal.
abbrev pub ReadsQuantity : List ℕ → Result (Written × List ℕ) ScpiError → Type 0
ReadsQuantity text (Ok x) = IsQuantity text x.0 x.1 × IsInLimits x.0
ReadsQuantity text (Err e) =
    (((n : Written) (suffix : List ℕ) → IsQuantity text n suffix → ⊥) × (e ≡ InvalidCharacterInNumber))
    ⊎ ((n : Written) × (suffix : List ℕ) × IsQuantity text n suffix × IsRefusedNumber text e)

-- the number that digits alone write
abbrev pub digits_written : List ℕ → Written
digits_written digits = record { negative = false; whole = digits; fraction = []; exponent = pos 0 }

-- the number itself from low to high, without its sign, else an error
abbrev pub natural_in : ℕ → ℕ → ℤ → Result ℕ ScpiError
natural_in low high z = result_map_both unsigned_abs (λ e. e) (in_range (pos low) (pos high) z)

-- the nearest whole number of what takes no suffix, in the command's range
abbrev pub whole_of : Numeric → ℕ → Written → List ℕ → Result Command ScpiError
whole_of ask number n [] = result_map_both (λ m. of_whole ask number m) (λ e. e)
    (natural_in (least ask) (greatest ask) (rounded n 0))
whole_of ask number n (b ∷ suffix) = Err SuffixNotAllowed

-- a number that doesn't round to 0 is ON
abbrev pub not_zero : ℤ → Bool
not_zero z = nat_lt 0 (unsigned_abs z)

-- the command that sets a switch
abbrev pub of_switch : Switch → Bool → Command
of_switch switches.Continuous on = commands.Continuous on
of_switch switches.Programmed on = commands.Set (settings.Programmed on)

abbrev pub switched_by : Switch → Written → List ℕ → Result Command ScpiError
switched_by ask n [] = Ok (of_switch ask (not_zero (rounded n 0)))
switched_by ask n (b ∷ suffix) = Err SuffixNotAllowed

abbrev pub macros_of : Written → List ℕ → Result Command ScpiError
macros_of n [] = result_map_both (λ z. commands.Macro (macros.Enable (not_zero z))) (λ e. e)
    (in_range (neg_ℤ (pos 32767)) (pos 32767) (rounded n 0))
macros_of n (b ∷ suffix) = Err SuffixNotAllowed

-- ---- words

-- one of the two forms
abbrev pub is_named : List ℕ → List ℕ → Bool
is_named word text = same_word text (short_of word) || same_word text (long_of word)

-- ---- times of a layer

-- a suffix names a unit of time, none seconds
abbrev pub time_unit_of : List ℕ → Option TimeUnit
time_unit_of suffix =
    if is_named [] suffix then Some S
    else if is_named (codes "S") suffix then Some S
    else if is_named (codes "MS") suffix then Some Ms
    else if is_named (codes "US") suffix then Some Us
    else None

-- whole microseconds, from the least to an hour
abbrev pub time_within : Time → LayerName → Result ℕ ScpiError → Result Command ScpiError
time_within kind layer (Ok micros) =
    if nat_le (least_micros kind) micros && nat_le micros longest_delay
    then Ok (commands.Set (settings.Time kind layer micros))
    else Err DataOutOfRange
time_within kind layer (Err e) = Err e

-- they are rounded first
abbrev pub time_in : Time → LayerName → Written → Option TimeUnit → Result Command ScpiError
time_in kind layer n None = Err InvalidSuffix
time_in kind layer n (Some unit) = time_within kind layer (in_u64 (rounded n (tens_of unit)))

abbrev pub time_of : Time → LayerName → Written → List ℕ → Result Command ScpiError
time_of kind layer n suffix = time_in kind layer n (time_unit_of (map to_ascii_uppercase suffix))

-- ---- strings and blocks

-- the content of the string that the text is, or lack of memory for it; or the text is no string
abbrev pub ReadsString : List ℕ → Result (List ℕ) ScpiError → Type 0
ReadsString text (Ok content) = IsString text content []
ReadsString text (Err e) =
    ((content : List ℕ) × IsString text content [] × (e ≡ OutOfMemory))
    ⊎ (((content : List ℕ) → IsString text content [] → ⊥) × (e ≡ InvalidStringData))

-- the same for the bytes of a block
abbrev pub ReadsBlock : List ℕ → Result (List ℕ) ScpiError → Type 0
ReadsBlock text (Ok bytes) = IsBlock text bytes []
ReadsBlock text (Err e) =
    ((bytes : List ℕ) × IsBlock text bytes [] × (e ≡ OutOfMemory))
    ⊎ (((bytes : List ℕ) → IsBlock text bytes [] → ⊥) × (e ≡ InvalidBlockData))

-- ---- sources and switches

abbrev pub source_of : List ℕ → Option Source
source_of text =
    if is_named (codes "IMMediate") text then Some sources.Immediate
    else if is_named (codes "BUS") text then Some sources.Bus
    else if is_named (codes "EXTernal") text then Some sources.External
    else if is_named (codes "HOLD") text then Some sources.Hold
    else if is_named (codes "TIMer") text then Some sources.Timer
    else None

abbrev pub switch_of : List ℕ → Option Bool
switch_of text = if is_named (codes "ON") text then Some true else if is_named (codes "OFF") text then Some false
    else None

-- a word of the setting; another setting's word; none of all words
abbrev pub source_named : LayerName → Option Source → Option Bool → Result Command ScpiError
source_named layer (Some source) switch = Ok (commands.Set (settings.Source layer source))
source_named layer None (Some on) = Err IllegalParameterValue
source_named layer None None = Err InvalidCharacterData

abbrev pub switch_named : Switch → Option Bool → Option Source → Result Command ScpiError
switch_named ask (Some on) source = Ok (of_switch ask on)
switch_named ask None (Some source) = Err IllegalParameterValue
switch_named ask None None = Err InvalidCharacterData

abbrev pub source_meant : LayerName → List ℕ → Result Command ScpiError
source_meant layer text = source_named layer (source_of (map to_ascii_uppercase text))
    (switch_of (map to_ascii_uppercase text))

abbrev pub switch_meant : Switch → List ℕ → Result Command ScpiError
switch_meant ask text =
    switch_named ask (switch_of (map to_ascii_uppercase text)) (source_of (map to_ascii_uppercase text))

-- ---- a trigger layer's number in a header

-- the letters at the front
abbrev pub leading : List ℕ → List ℕ
leading [] = []
leading (b ∷ bytes) = if is_letter b then b ∷ leading bytes else []

-- what follows them
abbrev pub trailing : List ℕ → List ℕ
trailing [] = []
trailing (b ∷ bytes) = if is_letter b then trailing bytes else b ∷ bytes

abbrev pub all_digits : List ℕ → Bool
all_digits [] = true
all_digits (b ∷ bytes) = is_digit b && all_digits bytes

-- LAYer without the number behind it; any other word stays
abbrev pub unnumbered : List ℕ → List ℕ
unnumbered word = if is_named (codes "LAYer") (map to_ascii_uppercase (leading word))
    && all_digits (trailing word) then leading word else word
