-- A decimal number in a text, and the whole number nearest to it (IEEE 488.2, 7.7.2).
use Rattle.std.specs.Prelude.{◌≡◌, ℕ, ◌+◌, ◌-◌, ◌*◌, ◌/◌, ◌^◌, ◌<◌, ◌≤◌, Bool, false, not, nat_lt, ◌==◌, ◌||◌, ◌&&◌}
use Rattle.std.specs.Prelude.{◌⊎◌, ℤ, pos, negsuc, neg_ℤ, ◌+ℤ◌, ◌-ℤ◌, int_le, unsigned_abs, List, [], ◌∷◌, ◌++◌, length}
use Rattle.std.specs.Prelude.{Result, Ok, Err, if◌then◌else◌}
use Rattle.sw_base.specs.Text.{is_blank, is_digit, is_letter, StartsOff, Spans}
use Rattle.sw_base.specs.declared.error.ScpiError.{ScpiError}
use Rattle.sw_base.specs.declared.error.ScpiError.TheVariants.{InvalidCharacterInNumber, ExponentTooLarge}
use Rattle.sw_base.specs.declared.error.ScpiError.TheVariants.{TooManyDigits, DataOutOfRange}
use Rattle.sw_base.specs.declared.number.Unit.{Unit as TimeUnit}
use Rattle.sw_base.specs.declared.number.Unit.TheVariants.{S, Ms, Us}

-- A number as a text writes it: whether a minus is first, the digits before the point, those after it, the exponent.
pub record Written : Type 0 where
  pub negative : Bool
  pub whole : List ℕ
  pub fraction : List ℕ
  pub exponent : ℤ

-- the number that digits write where they follow those of n
abbrev pub value_after : ℕ → List ℕ → ℕ
value_after n [] = n
value_after n (b ∷ digits) = value_after (n * 10 + (b - 48)) digits

abbrev pub value_of : List ℕ → ℕ
value_of digits = value_after 0 digits

abbrev pub with_sign : Bool → ℕ → ℤ
with_sign negative n = if negative then neg_ℤ (pos n) else pos n

-- the first byte is a minus
abbrev pub is_negative : List ℕ → Bool
is_negative [] = false
is_negative (b ∷ text) = b == 45

-- what follows a first plus or minus, or all where neither is first
abbrev pub unsigned : List ℕ → List ℕ
unsigned [] = []
unsigned (b ∷ text) = if (b == 43) || (b == 45) then text else b ∷ text

-- a point and all digits after it, or no point and no digits; and the rest
abbrev pub IsFraction : List ℕ → List ℕ → List ℕ → Type 0
IsFraction text digits rest =
    ((after : List ℕ) × (text ≡ 46 ∷ after) × Spans is_digit after digits rest)
    ⊎ (StartsOff (λ b. b == 46) text × (digits ≡ []) × (rest ≡ text))

-- an optional sign, and digits with at most one point and at least one digit; and the rest
pub record IsMantissa (text : List ℕ) (n : Written) (rest : List ℕ) : Type 0 where
  pub sign : n.negative ≡ is_negative text
  pub pointed : List ℕ
  pub before : Spans is_digit (unsigned text) n.whole pointed
  pub after : IsFraction pointed n.fraction rest
  pub digit : 0 < length n.whole + length n.fraction

-- `E` or `e` with white space allowed round it, an optional sign, and at least one digit; and the rest
pub record IsExponent (text : List ℕ) (negative : Bool) (digits rest : List ℕ) : Type 0 where
  pub before : List ℕ
  pub marked : List ℕ
  pub after : List ℕ
  pub gap : List ℕ
  pub signed : List ℕ
  pub blank : Spans is_blank text before marked
  pub mark : (marked ≡ 69 ∷ after) ⊎ (marked ≡ 101 ∷ after)
  pub space : Spans is_blank after gap signed
  pub sign : negative ≡ is_negative signed
  pub all : Spans is_digit (unsigned signed) digits rest
  pub digit : 0 < length digits

-- an exponent where one can be read, else none, which counts as 0; and the rest
abbrev pub IsExponentTail : List ℕ → ℤ → List ℕ → Type 0
IsExponentTail text exponent rest =
    ((negative : Bool) × (digits : List ℕ) × IsExponent text negative digits rest
    × (exponent ≡ with_sign negative (value_of digits)))
    ⊎ (((negative : Bool) (digits other : List ℕ) → IsExponent text negative digits other → ⊥) × (exponent ≡ pos 0)
    × (rest ≡ text))

-- white space, a comma or a semicolon
abbrev pub is_end : ℕ → Bool
is_end b = is_blank b || (b == 44) || (b == 59)

-- up to white space, a comma, a semicolon or the end there are only letters
pub record IsEnded (text : List ℕ) : Type 0 where
  pub letters : List ℕ
  pub rest : List ℕ
  pub all : Spans is_letter text letters rest
  pub end : StartsOff (λ b. not (is_end b)) rest

-- The text begins with the number as written, and the rest follows, in which no byte but letters runs on from it.
pub record IsNumber (text : List ℕ) (n : Written) (rest : List ℕ) : Type 0 where
  pub after : List ℕ
  pub mantissa : IsMantissa text n after
  pub tail : IsExponentTail after n.exponent rest
  pub ended : IsEnded rest

-- the digits from the first that isn't 0
abbrev pub from_first : List ℕ → List ℕ
from_first [] = []
from_first (b ∷ digits) = if b == 48 then from_first digits else b ∷ digits

-- how many digits count: those of the mantissa from the first that isn't 0
abbrev pub significant : Written → ℕ
significant n = length (from_first (n.whole ++ n.fraction))

-- no more digits than 255 count, and the exponent is no larger than 32000 (IEEE 488.2, 7.7.2.4.1)
pub record IsInLimits (n : Written) : Type 0 where
  pub digits : significant n ≤ 255
  pub exponent : unsigned_abs n.exponent ≤ 32000

-- the error of a text: it begins with no number, or with one of too many digits, or else of too large an exponent
-- (SCPI-1999, 21.8.9)
abbrev pub IsRefusedNumber : List ℕ → ScpiError → Type 0
IsRefusedNumber text InvalidCharacterInNumber = (n : Written) (rest : List ℕ) → IsNumber text n rest → ⊥
IsRefusedNumber text TooManyDigits = (n : Written) × (rest : List ℕ) × IsNumber text n rest × (255 < significant n)
IsRefusedNumber text ExponentTooLarge = (n : Written) × (rest : List ℕ) × IsNumber text n rest × (significant n ≤ 255)
    × (32000 < unsigned_abs n.exponent)
IsRefusedNumber text _ = ⊥

-- m * 10 ^ e as a whole number, a half rounded up
unfoldable pub magnitude : ℕ → ℤ → ℕ
magnitude m (pos e) = m * 10 ^ e
magnitude m (negsuc j) = (2 * m + 10 ^ (j + 1)) / (2 * 10 ^ (j + 1))

-- the number times 10 ^ tens without its sign, rounded
abbrev pub size_of : Written → ℕ → ℕ
size_of n tens = magnitude (value_of (n.whole ++ n.fraction)) ((n.exponent +ℤ pos tens) -ℤ pos (length n.fraction))

-- the whole number nearest to the number times 10 ^ tens, a half rounded away from zero
abbrev pub rounded : Written → ℕ → ℤ
rounded n tens = with_sign n.negative (size_of n tens)

-- the number itself from low to high, else an error
abbrev pub in_range : ℤ → ℤ → ℤ → Result ℤ ScpiError
in_range low high z = if int_le low z && int_le z high then Ok z else Err DataOutOfRange

-- how many microseconds a unit has, as a power of ten
abbrev pub tens_of : TimeUnit → ℕ
tens_of S = 6
tens_of Ms = 3
tens_of Us = 0

-- the number itself from 0 to 2^64 - 1, else an error
abbrev pub in_u64 : ℤ → Result ℕ ScpiError
in_u64 (pos n) = if nat_lt n (2 ^ 64) then Ok n else Err DataOutOfRange
in_u64 (negsuc n) = Err DataOutOfRange
