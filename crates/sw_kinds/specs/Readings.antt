-- The readings of a source that begins with one voltage and adds the same step each time.
use Rattle.std.specs.Prelude.{ℕ, ◌^◌, Bool, nat_lt, ℤ, pos, negsuc, ◌+ℤ◌, ◌*ℤ◌, Option, Some, None, if◌then◌else◌}
use Rattle.sw_base.specs.declared.reading.Reading.{Reading}
use Rattle.sw_base.specs.declared.reading.Reading.TheVariants.{Volts, Overload}

-- an i64 holds the number
abbrev pub is_i64 : ℤ → Bool
is_i64 (pos n) = nat_lt n (2 ^ 63)
is_i64 (negsuc n) = nat_lt n (2 ^ 63)

-- a voltage in nanovolts as a reading
abbrev pub reading_of : ℤ → Reading
reading_of z = if is_i64 z then Volts z else Overload

-- the reading that many samples on, counted from 0, of a source by its next voltage, if there is one, and its step
abbrev pub reading_after : Option ℤ × ℤ → ℕ → Reading
reading_after (None, step) n = Overload
reading_after (Some first, step) n = reading_of (first +ℤ (pos n *ℤ step))
