-- What a meter's answer says.
use Rattle.std.specs.Prelude.{◌≡◌, ◌⊎◌, ℕ, ℤ, pos, negsuc, false, List, Result, Ok, Err, codes}
use Rattle.sw_base.specs.declared.error.ScpiError.{ScpiError}
use Rattle.sw_base.specs.declared.reading.Reading.{Reading}
use Rattle.sw_base.specs.declared.reading.Reading.TheVariants.{Volts, Overload}
use Rattle.sw_base.specs.Number.{IsExponent, IsMantissa, IsNumber, Written, in_range, rounded}

-- The text begins with SCPI's number for "there is none", 9.91E37 (SCPI-1999, 7.2.1.5).
pub record IsNan (text : List ℕ) : Type 0 where
  pub mantissa : Written
  pub behind : List ℕ
  pub read : IsMantissa text mantissa behind
  pub bare : mantissa.exponent ≡ pos 0
  pub size : rounded mantissa 9 ≡ pos 9910000000
  pub digits : List ℕ
  pub rest : List ℕ
  pub exponent : IsExponent behind false digits rest
  pub tens : (digits ≡ codes "37") ⊎ (digits ≡ codes "037")

-- a number of nanovolts as a reading; an overload where there is none
abbrev pub reading_at : Result ℤ ScpiError → Reading
reading_at (Ok nanovolts) = Volts nanovolts
reading_at (Err error) = Overload

-- The text begins with a number, and the reading is that number of volts, to the nearest nanovolt, a half away from
-- zero; an overload where the nanovolts exceed an `i64`.
pub record IsReading (text : List ℕ) (reading : Reading) : Type 0 where
  pub number : Written
  pub rest : List ℕ
  pub read : IsNumber text number rest
  pub nanovolts : reading_at (in_range (negsuc 9223372036854775807) (pos 9223372036854775807) (rounded number 9))
      ≡ reading
