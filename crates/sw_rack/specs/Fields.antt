-- What a key of a table gives.
use Rattle.std.specs.Prelude.{ℕ, ◌==◌, Bool, ◌&&◌, nat_le, nat_lt, ℤ, pos, negsuc, List, [], ◌∷◌, length, Option, Some}
use Rattle.std.specs.Prelude.{None, Result, Ok, Err, if◌then◌else◌}
use Rattle.toml.specs.Data.{Data, string, integer, boolean, array, Items, no_items, item, Members, get_member}
use Rattle.toml.specs.Data.{type_name}
use Rattle.sw_rack.specs.declared.key.Key.{Key}
use Rattle.sw_rack.specs.declared.cause.Cause.TheVariants as causes
use Rattle.sw_rack.specs.declared.cause.Wanted.TheVariants as wants
use Rattle.sw_rack.specs.Keys.{name_of}
use Rattle.sw_rack.specs.Reading.{Miss, ◌>>=◌}

-- the value at the key
abbrev pub member_at : Key → Members → Option Data
member_at key ms = get_member (name_of key) ms

-- a key may be left out
abbrev pub optional : {A : Type 0} → (Data → Result A Miss) → Option Data → Result (Option A) Miss
optional read None = Ok None
optional read (Some d) = read d >>= λ x. Ok (Some x)

-- or may not
abbrev pub wanted : {A : Type 0} → Key → Option A → Result A Miss
wanted key None = Err (causes.Missing key, [])
wanted key (Some x) = Ok x

abbrev pub otherwise : {A : Type 0} → A → Option A → A
otherwise usual None = usual
otherwise usual (Some x) = x

-- a text that isn't empty
abbrev pub some_text : Key → List ℕ → Result (List ℕ) Miss
some_text key text = if length text == 0 then Err (causes.Empty key, []) else Ok text

abbrev pub as_text : Key → Data → Result (List ℕ) Miss
as_text key (string text) = some_text key text
as_text key d = Err (causes.Mistyped key wants.Text, type_name d)

-- a whole number in its range
abbrev pub natural : ℤ → Option ℕ
natural (pos n) = if nat_lt n 4294967296 then Some n else None
natural (negsuc n) = None

abbrev pub ranged : Key → ℕ → ℕ → ℤ → Option ℕ → Result ℕ Miss
ranged key low high z None = Err (causes.Range key low high z, [])
ranged key low high z (Some n) =
    if nat_le low n && nat_le n high then Ok n else Err (causes.Range key low high z, [])

abbrev pub as_number : Key → ℕ → ℕ → Data → Result ℕ Miss
as_number key low high (integer z) = ranged key low high z (natural z)
as_number key low high d = Err (causes.Mistyped key wants.Number, type_name d)

-- any whole number
abbrev pub as_integer : Key → Data → Result ℤ Miss
as_integer key (integer z) = Ok z
as_integer key d = Err (causes.Mistyped key wants.Number, type_name d)

abbrev pub as_flag : Key → Data → Result Bool Miss
as_flag key (boolean b) = Ok b
as_flag key d = Err (causes.Mistyped key wants.Flag, type_name d)

-- each of some items
abbrev pub each : {A : Type 0} → (Data → Result A Miss) → Items → Result (List A) Miss
each read no_items = Ok []
each read (item d ds) = read d >>= λ x. each read ds >>= λ xs. Ok (x ∷ xs)

-- a list of exclusion groups
abbrev pub as_groups : Key → Data → Result (List ℕ) Miss
as_groups key (array ds) = each (as_number key 0 255) ds
as_groups key d = Err (causes.Mistyped key wants.Numbers, type_name d)

-- a text or a list of texts
abbrev pub some_texts : Key → List (List ℕ) → Result (List (List ℕ)) Miss
some_texts key texts = if length texts == 0 then Err (causes.Empty key, []) else Ok texts

abbrev pub as_texts : Key → Data → Result (List (List ℕ)) Miss
as_texts key (string text) = some_text key text >>= λ one. Ok (one ∷ [])
as_texts key (array ds) = each (as_text key) ds >>= some_texts key
as_texts key d = Err (causes.Mistyped key wants.Texts, type_name d)

-- the same at a key that may be left out
unfoldable pub text_at : Key → Members → Result (Option (List ℕ)) Miss
text_at key ms = optional (as_text key) (member_at key ms)

unfoldable pub number_at : Key → ℕ → ℕ → Members → Result (Option ℕ) Miss
number_at key low high ms = optional (as_number key low high) (member_at key ms)

unfoldable pub integer_at : Key → Members → Result (Option ℤ) Miss
integer_at key ms = optional (as_integer key) (member_at key ms)

unfoldable pub flag_at : Key → Members → Result (Option Bool) Miss
flag_at key ms = optional (as_flag key) (member_at key ms)

unfoldable pub groups_at : Key → Members → Result (Option (List ℕ)) Miss
groups_at key ms = optional (as_groups key) (member_at key ms)

unfoldable pub texts_at : Key → Members → Result (Option (List (List ℕ))) Miss
texts_at key ms = optional (as_texts key) (member_at key ms)
