-- What a template sends for a channel. Within braces is `ch`, the channel's number, or `ch0`, one less; `:02` behind it
-- asks for two digits, `:X` for one digit of base 36.
use Rattle.std.specs.Prelude.{ℕ, ◌+◌, ◌-◌, ◌/◌, ◌%◌, ◌==◌, nat_lt, List, [], ◌∷◌, ◌++◌, Option, Some, None}
use Rattle.std.specs.Prelude.{codes, if◌then◌else◌}
use Rattle.std.specs.Str.{bytes_eq}

-- digits of base 10, and one digit of base 36
abbrev pub two_digits : ℕ → List ℕ
two_digits n = (48 + n / 10) ∷ (48 + n % 10) ∷ []

abbrev pub decimal : ℕ → List ℕ
decimal n = if nat_lt n 10 then (48 + n) ∷ [] else two_digits n

abbrev pub one_digit : ℕ → Option (List ℕ)
one_digit n = if nat_lt n 10 then Some ((48 + n) ∷ []) else if nat_lt n 36 then Some ((55 + n) ∷ []) else None

-- the digits that replace a word within braces
abbrev pub word_for : ℕ → List ℕ → Option (List ℕ)
word_for ch word =
    if bytes_eq word (codes "ch") then Some (decimal ch)
    else if bytes_eq word (codes "ch0") then Some (decimal (ch - 1))
    else if bytes_eq word (codes "ch:02") then Some (two_digits ch)
    else if bytes_eq word (codes "ch0:02") then Some (two_digits (ch - 1))
    else if bytes_eq word (codes "ch:X") then one_digit ch
    else if bytes_eq word (codes "ch0:X") then one_digit (ch - 1)
    else None

abbrev pub joined : Option (List ℕ) → Option (List ℕ) → Option (List ℕ)
joined None rest = None
joined (Some front) None = None
joined (Some front) (Some rest) = Some (front ++ rest)

-- the rest of a template from a place outside braces, and from one within them behind this part of a word; None where a
-- word means nothing, and where braces aren't closed
unfoldable mutual
  pub rendered : ℕ → List ℕ → Option (List ℕ)
  rendered ch [] = Some []
  rendered ch (byte ∷ rest) =
      if byte == 123 then rendered_within ch [] rest else joined (Some (byte ∷ [])) (rendered ch rest)

  pub rendered_within : ℕ → List ℕ → List ℕ → Option (List ℕ)
  rendered_within ch word [] = None
  rendered_within ch word (byte ∷ rest) =
      if byte == 125 then joined (word_for ch word) (rendered ch rest)
      else rendered_within ch (word ++ byte ∷ []) rest
