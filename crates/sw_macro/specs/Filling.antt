-- A body with the parameters of the unit that calls its macro (IEEE 488.2, 10.7).
use Rattle.std.specs.Prelude.{◌≡◌, ◌<◌, ℕ, ◌+◌, ◌-◌, Bool, ◌&&◌, ◌==◌, nat_lt, nat_le, List, [], ◌∷◌, ◌++◌, length, map}
use Rattle.std.specs.Prelude.{slice_get, Option, Some, None, Result, Ok, Err, if◌then◌else◌}
use Rattle.sw_base.specs.declared.error.ScpiError.{ScpiError}
use Rattle.sw_base.specs.declared.error.ScpiError.TheVariants.{MacroParameterError, MacroRecursionError}
use Rattle.sw_base.specs.Limits.{most_bytes}
use Rattle.sw_lex.specs.Unit.{Datum, datum_text}

-- a digit from 1 to 9
abbrev pub is_place : ℕ → Bool
is_place b = nat_le 49 b && nat_le b 57

-- the data element with this number, from 0, as it is written
abbrev pub parameter : List Datum → ℕ → Option (List ℕ)
parameter ds k = slice_get (map datum_text ds) k

-- a text after these bytes
abbrev pub prefixed : List ℕ → Option (List ℕ) → Option (List ℕ)
prefixed bytes None = None
prefixed bytes (Some text) = Some (bytes ++ text)

-- a text after a parameter; none where either is missing
abbrev pub text_joined : Option (List ℕ) → Option (List ℕ) → Option (List ℕ)
text_joined None text = None
text_joined (Some bytes) text = prefixed bytes text

-- The body with each `$1` to `$9` replaced by that data element as it is written; none where one is missing. A `$`
-- before another byte stays.
abbrev pub filled : List Datum → List ℕ → Option (List ℕ)
filled ds [] = Some []
filled ds (b ∷ []) = Some (b ∷ [])
filled ds (b ∷ c ∷ more) =
    if b == 36 && is_place c then text_joined (parameter ds (c - 49)) (filled ds more)
    else prefixed (b ∷ []) (filled ds (c ∷ more))

-- a filled body behind n bytes: a missing parameter is the first refusal, then too much text together
abbrev pub fitting : ℕ → Option (List ℕ) → Result (List ℕ) ScpiError
fitting n None = Err MacroParameterError
fitting n (Some text) = if nat_lt most_bytes (n + length text) then Err MacroRecursionError else Ok text

abbrev pub put_in : List Datum → List ℕ → ℕ → Result (List ℕ) ScpiError
put_in ds body n = fitting n (filled ds body)

-- A text written after n bytes, and what the program keeps of it: all, with room for this many bytes more, or anything,
-- where the text is too long.
abbrev pub IsDraft : ℕ → List ℕ → List ℕ → Option ℕ → Type 0
IsDraft n text kept None = most_bytes < n + length text
IsDraft n text kept (Some room) = (kept ≡ text) × (n + length text + room ≡ most_bytes)

-- A `$` before these bytes puts those in, and then comes what the rest is filled to.
abbrev pub PutsFor : List Datum → List ℕ → List ℕ → List ℕ → Type 0
PutsFor ds more bytes rest = filled ds (36 ∷ more) ≡ prefixed bytes (filled ds rest)
