-- What a frame asks is in its bytes.
use Rattle.std.proofs.Common.{◌≡◌, ◌<◌, ◌/◌, ◌%◌, ℕ, Bool, true, false, get_or, refl, arith, if◌then◌else◌}
use Rattle.sw_drivers.specs.declared.frame.Request.{Request as Asked}
use Rattle.sw_drivers.specs.declared.frame.Request.TheVariants.{Read, Write, Clear}
use Rattle.sw_drivers.specs.Frames.{IsInRange, asks}

-- a number below 65536 by its two bytes
same_word : (a b : ℕ) → a < 65536 → b < 65536 → (a / 256) % 256 ≡ (b / 256) % 256 → a % 256 ≡ b % 256 → a ≡ b
same_word a b few fewer high low = omega (arith, few, fewer, high, low)

abbrev byte_of : Bool → ℕ
byte_of on = if on then 255 else 0

same_state : (on off : Bool) → byte_of on ≡ byte_of off → on ≡ off
same_state true true e = refl
same_state true false e = absurd (let no : 255 ≡ 0 = e in omega (arith, no))
same_state false true e = absurd (let no : 0 ≡ 255 = e in omega (arith, no))
same_state false false e = refl

pub same_asked : (one two : Asked) → IsInRange one → IsInRange two → get_or (asks one) 0 0 ≡ get_or (asks two) 0 0
    → get_or (asks one) 1 0 ≡ get_or (asks two) 1 0 → get_or (asks one) 2 0 ≡ get_or (asks two) 2 0
    → get_or (asks one) 3 0 ≡ get_or (asks two) 3 0 → get_or (asks one) 4 0 ≡ get_or (asks two) 4 0 → one ≡ two
same_asked (Read a b) (Read c d) r s f h l k m = λ i. Read (same_word a c r.0 s.0 h l i) (same_word b d r.1 s.1 k m i)
same_asked (Read a b) (Write c d) r s f h l k m = absurd (let no : 1 ≡ 5 = f in omega (arith, no))
same_asked (Read a b) (Clear c d) r s f h l k m = absurd (let no : 1 ≡ 15 = f in omega (arith, no))
same_asked (Write a b) (Read c d) r s f h l k m = absurd (let no : 5 ≡ 1 = f in omega (arith, no))
same_asked (Write a b) (Write c d) r s f h l k m = λ i. Write (same_word a c r s h l i) (same_state b d k i)
same_asked (Write a b) (Clear c d) r s f h l k m = absurd (let no : 5 ≡ 15 = f in omega (arith, no))
same_asked (Clear a b) (Read c d) r s f h l k m = absurd (let no : 15 ≡ 1 = f in omega (arith, no))
same_asked (Clear a b) (Write c d) r s f h l k m = absurd (let no : 15 ≡ 5 = f in omega (arith, no))
same_asked (Clear a b) (Clear c d) r s f h l k m = λ i. Clear (same_word a c r.0 s.0 h l i) (same_word b d r.1 s.1 k m i)
