-- Bytes of a text, and longest runs of them (IEEE 488.2, 7.4 and 7.6).
use Rattle.std.specs.Prelude.{◌≡◌, ℕ, Bool, true, false, not, nat_lt, nat_le, ◌==◌, ◌&&◌, ◌||◌, List, [], ◌∷◌, ◌++◌}
use Rattle.std.specs.List.{AllByRecursion}

-- white space: the bytes 0 to 9 and 11 to 32
abbrev pub is_blank : ℕ → Bool
is_blank b = nat_lt b 33 && not (b == 10)

abbrev pub is_digit : ℕ → Bool
is_digit b = nat_le 48 b && nat_lt b 58

abbrev pub is_letter : ℕ → Bool
is_letter b = (nat_le 65 b && nat_le b 90) || (nat_le 97 b && nat_le b 122)

-- a letter, a digit or an underscore
abbrev pub is_word : ℕ → Bool
is_word b = is_letter b || is_digit b || (b == 95)

-- each byte passes the test
abbrev pub AllPass : (ℕ → Bool) → List ℕ → Type 0
AllPass test bytes = AllByRecursion (λ b. test b ≡ true) bytes

-- the mark isn't among the bytes
abbrev pub Lacks : ℕ → List ℕ → Type 0
Lacks mark bytes = AllPass (λ b. not (b == mark)) bytes

-- nothing is there, or a byte that fails the test
abbrev pub StartsOff : (ℕ → Bool) → List ℕ → Type 0
StartsOff test [] = Unit {0}
StartsOff test (b ∷ bytes) = test b ≡ false

-- the longest front of bytes that pass the test, and the rest
pub record Spans (test : ℕ → Bool) (bytes front rest : List ℕ) : Type 0 where
  pub whole : bytes ≡ front ++ rest
  pub pass : AllPass test front
  pub off : StartsOff test rest
