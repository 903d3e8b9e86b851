-- An answer in the parts in which it goes out.
use Rattle.std.specs.Prelude.{◌≡◌, ◌≢◌, ℕ, zero, suc, nat_le, List, [], ◌∷◌, length, take, drop, Option, None, Some}
use Rattle.std.specs.Prelude.{Result, Ok, Err, if◌then◌else◌}
use Rattle.sw_hislip.specs.declared.kind.Kind.TheVariants as Kinds
use Rattle.sw_hislip.specs.declared.message.Message.{Message}
use Rattle.sw_channels.specs.EngineMessages.{part}

-- An answer under this identifier in parts of this many bytes, and a last one that may have fewer: as Data, and the
-- last as DataEnd. At most `most` parts come before the last.
abbrev pub in_parts : ℕ → ℕ → ℕ → List ℕ → List Message
in_parts zero room id bytes = part Kinds.DataEnd id bytes ∷ []
in_parts (suc most) room id bytes =
    if nat_le (length bytes) room then part Kinds.DataEnd id bytes ∷ []
    else part Kinds.Data id (take room bytes) ∷ in_parts most room id (drop room bytes)

-- all of them
abbrev pub parts_of : ℕ → ℕ → List ℕ → List Message
parts_of room id bytes = in_parts (length bytes) room id bytes

-- The first of these is given and the others are left; none are left; or there was no memory for the first.
abbrev pub GivesFirst : {A E : Type 0} → List A → Result (Option A) E → List A → Type 0
GivesFirst old (Ok (Some first)) new = old ≡ first ∷ new
GivesFirst old (Ok None) new = (old ≡ []) × (new ≡ [])
GivesFirst old (Err _) new = (old ≢ []) × (new ≡ old)
