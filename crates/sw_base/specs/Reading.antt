-- Numbers and readings as text.
use Rattle.std.specs.Prelude.{ℕ, suc, zero, ◌+◌, ◌/◌, ◌%◌, ◌^◌, ◌<◌, pos, negsuc, unsigned_abs, List, [], ◌∷◌, ◌++◌}
use Rattle.std.specs.Prelude.{codes, decimal}
use Rattle.sw_base.specs.declared.reading.Reading.{Reading}
use Rattle.sw_base.specs.declared.reading.Reading.TheVariants.{Volts, Overload}

-- the last digits of n, that many, zeros in front where it has fewer
unfoldable pub last_digits : ℕ → ℕ → List ℕ
last_digits zero n = []
last_digits (suc width) n = last_digits width (n / 10) ++ (48 + n % 10) ∷ []

-- n / 10 ^ places: the whole part, a point, and as many digits as places
abbrev pub fixed : ℕ → ℕ → List ℕ
fixed places n = decimal (n / 10 ^ places) ++ 46 ∷ last_digits places n

-- a reading in nanovolts as volts with nine decimals; an overload as SCPI's number for infinity (SCPI-1999, 7.2.1.4)
abbrev pub reading_text : Reading → List ℕ
reading_text (Volts (pos n)) = fixed 9 n
reading_text (Volts (negsuc n)) = 45 ∷ fixed 9 (suc n)
reading_text Overload = codes "9.9E+37"

-- its nanovolts are below 2^64 in size, as those of each value of the type are
abbrev pub IsBounded : Reading → Type 0
IsBounded (Volts v) = unsigned_abs v < 2 ^ 64
IsBounded Overload = Unit {0}
