-- Data elements at the front of a text (IEEE 488.2, 7.7).
use Rattle.std.specs.Prelude.{◌≡◌, ℕ, ◌+◌, ◌<◌, ◌≤◌, Bool, true, not, nat_lt, ◌==◌, ◌&&◌, ◌||◌, List, [], ◌∷◌, ◌++◌}
use Rattle.std.specs.Prelude.{length, ◌⊎◌, if◌then◌else◌, Option, Some, None}
use Rattle.sw_base.specs.Text.{is_blank, is_digit, is_letter, is_word, AllPass, StartsOff, Spans}
use Rattle.sw_base.specs.Number.{Written, IsMantissa, IsExponent, value_of}
use Rattle.sw_lex.specs.declared.elements.ElementKind.{ElementKind}
use Rattle.sw_lex.specs.declared.elements.ElementKind.TheVariants as kinds

-- ---- bytes

-- the first byte of a number: a digit, a sign or a point
abbrev pub is_numeric : ℕ → Bool
is_numeric b = is_digit b || (b == 43 || (b == 45 || b == 46))

-- a mark that encloses a string: " or '
abbrev pub is_quote : ℕ → Bool
is_quote b = b == 34 || b == 39

-- what a number runs over: all but white space, `,` and `;`, and but a line feed and the bytes above 126
abbrev pub is_run : ℕ → Bool
is_run b = nat_lt 32 b && (nat_lt b 127 && (not (b == 44) && not (b == 59)))

-- a byte between the parentheses of an expression: neither `)`, nor a line feed, nor a byte above 126
abbrev pub is_inner : ℕ → Bool
is_inner b = not (b == 41) && (not (b == 10) && nat_lt b 127)

-- the kind of the element that a byte begins
abbrev pub kind_of_byte : ℕ → Option ElementKind
kind_of_byte b =
    if is_numeric b then Some kinds.Number
    else if is_letter b then Some kinds.Character
    else if is_quote b then Some kinds.String
    else if b == 35 then Some kinds.Block
    else if b == 40 then Some kinds.Expression
    else None

-- the kind of the element at the front of a text, by its first byte
abbrev pub kind_at : List ℕ → Option ElementKind
kind_at [] = None
kind_at (b ∷ more) = kind_of_byte b

-- ---- numbers

-- a number with white space before the `E` of its exponent, or after it
pub record IsApart (text rest : List ℕ) : Type 0 where
  pub number : Written
  pub after : List ℕ
  pub negative : Bool
  pub digits : List ℕ
  pub mantissa : IsMantissa text number after
  pub exponent : IsExponent after negative digits rest
  pub apart : 0 < length exponent.before + length exponent.gap

-- such a number, or else all up to white space, a comma or a semicolon
abbrev pub IsBody : List ℕ → List ℕ → Type 0
IsBody text rest = IsApart text rest
    ⊎ (((other : List ℕ) → IsApart text other → ⊥) × (run : List ℕ) × Spans is_run text run rest)

-- then letters, and white space before them; where there are no letters, nothing
pub record IsSuffixed (text rest : List ℕ) : Type 0 where
  pub gap : List ℕ
  pub more : List ℕ
  pub letters : List ℕ
  pub after : List ℕ
  pub blank : Spans is_blank text gap more
  pub all : Spans is_letter more letters after
  pub ends : ((letters ≡ []) × (rest ≡ text)) ⊎ ((0 < length letters) × (rest ≡ after))

-- a number at the front, and what follows it
abbrev pub IsNumeral : List ℕ → List ℕ → Type 0
IsNumeral text rest = (after : List ℕ) × IsBody text after × IsSuffixed after rest

-- ---- strings

-- each mark doubled
abbrev pub doubled : ℕ → List ℕ → List ℕ
doubled mark [] = []
doubled mark (b ∷ bytes) = if b == mark then mark ∷ mark ∷ doubled mark bytes else b ∷ doubled mark bytes

-- a string of this content at the front, and what follows it: the closing mark isn't followed by one more
pub record IsString (text content rest : List ℕ) : Type 0 where
  pub mark : ℕ
  pub quote : is_quote mark ≡ true
  pub whole : text ≡ mark ∷ (doubled mark content ++ mark ∷ rest)
  pub closed : StartsOff (λ b. b == mark) rest

-- ---- blocks

-- a definite block of these bytes at the front, and what follows it: `#`, a digit from 1 to 9, as many digits that
-- give the length, and the bytes
pub record IsBlock (text bytes rest : List ℕ) : Type 0 where
  pub digits : List ℕ
  pub numeric : AllPass is_digit digits
  pub some : 0 < length digits
  pub few : length digits ≤ 9
  pub counted : length bytes ≡ value_of digits
  pub whole : text ≡ 35 ∷ (48 + length digits) ∷ (digits ++ (bytes ++ rest))

-- ---- expressions

-- an expression at the front, and what follows it: it runs to the next `)`
pub record IsExpression (text rest : List ℕ) : Type 0 where
  pub inner : List ℕ
  pub pass : AllPass is_inner inner
  pub whole : text ≡ 40 ∷ (inner ++ 41 ∷ rest)

-- ---- all of them

-- an element of the kind at the front, and what follows it
abbrev pub IsElement : ElementKind → List ℕ → List ℕ → Type 0
IsElement kinds.Number text rest = IsNumeral text rest
IsElement kinds.Character text rest = (word : List ℕ) × Spans is_word text word rest
IsElement kinds.String text rest = (content : List ℕ) × IsString text content rest
IsElement kinds.Block text rest = (bytes : List ℕ) × IsBlock text bytes rest
IsElement kinds.Expression text rest = IsExpression text rest
