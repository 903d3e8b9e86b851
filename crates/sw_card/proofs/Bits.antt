-- A set of channels as bits: what is in it after a channel was put in or taken out, and its lowest channel.
use Rattle.std.proofs.Common.{◌≡◌, ◌≢◌, ℕ, zero, suc, ◌+◌, ◌-◌, ◌*◌, ◌%◌, ◌^◌, ◌<◌, ◌≤◌, true, false, bit_and, bit_or}
use Rattle.std.proofs.Common.{refl, sym, ap, ◌∙◌, arith, ◌⊎◌, inl, inr, nat_le}
use Rattle.std.proofs.lemmas.Bool.{cases_Bool}
use mir.Syntax.{w128}
use Rattle.std.specs.Int.{bit_at, bit_not, trailing_zeros}
use Rattle.std.proofs.lemmas.Grind.{common_steps}
use Rattle.std.proofs.lemmas.Nat.Bits.{bit_at_above, bit_at_set_same, bit_at_set_other, bit_at_clear_same, bit_at_clear_other}
use Rattle.std.proofs.lemmas.Nat.Bits.{bit_at-trailing_zeros}
use Rattle.std.proofs.lemmas.Nat.{or_lt, and_le_l}
use Rattle.sw_card.specs.Mask.{in_mask}

-- the number with the channel put in, and with it taken out
abbrev pub put : ℕ → ℕ → ℕ
put mask ch = bit_or mask (1 * 2 ^ (ch - 1) % 2 ^ 128)

abbrev pub taken : ℕ → ℕ → ℕ
taken mask ch = bit_and mask (bit_not w128 (1 * 2 ^ (ch - 1) % 2 ^ 128))

pub in_beyond : (mask ch : ℕ) → mask < 2 ^ 128 → 128 < ch → in_mask mask ch ≡ false
in_beyond mask ch h k = let z : bit_at mask (ch - 1) ≡ 0 = bit_at_above mask 128 (ch - 1) h (omega (arith, k)) in grind (arith, common_steps, z)

-- there is no channel 0
pub in_none : (mask ch : ℕ) → ch < 1 → in_mask mask ch ≡ false
in_none mask ch h = grind (arith, common_steps, h)

-- a channel is in a mask just where its bit is in that of another
same_bit : (a b ch : ℕ) → bit_at a (ch - 1) ≡ bit_at b (ch - 1) → in_mask a ch ≡ in_mask b ch
same_bit a b ch e = rw e refl

in_by_bit : (mask ch : ℕ) → 1 ≤ ch → bit_at mask (ch - 1) ≡ 1 → in_mask mask ch ≡ true
in_by_bit mask ch some e = grind (arith, common_steps, e, some)

out_by_bit : (mask ch : ℕ) → bit_at mask (ch - 1) ≡ 0 → in_mask mask ch ≡ false
out_by_bit mask ch e = grind (arith, common_steps, e)

pub split_at : (k n : ℕ) → (k ≤ n) ⊎ (n < k)
split_at k n = elim (cases_Bool (nat_le k n)) [
  | inl h ↦ inl (grind (arith, common_steps, h))
  | inr h ↦ inr (grind (arith, common_steps, h))
]

apart : (ch k : ℕ) → 1 ≤ ch → 1 ≤ k → k ≢ ch → k - 1 ≢ ch - 1
apart ch k some more n e = n (omega (arith, e, some, more))

pub put_same : (mask ch : ℕ) → 1 ≤ ch → ch ≤ 128 → in_mask (put mask ch) ch ≡ true
put_same mask ch some few = let z = bit_at_set_same w128 mask (ch - 1) (omega (arith, some, few)) in grind (arith, common_steps, z, some)

pub put_other : (mask ch k : ℕ) → 1 ≤ ch → ch ≤ 128 → k ≢ ch → in_mask (put mask ch) k ≡ in_mask mask k
put_other mask ch zero some few n = refl
put_other mask ch (suc j) some few n =
    same_bit (put mask ch) mask (suc j) (bit_at_set_other w128 mask (ch - 1) (omega (arith, some, few)) (suc j - 1) (apart ch (suc j) some (omega arith) n))

pub put_fits : (mask ch : ℕ) → mask < 2 ^ 128 → put mask ch < 2 ^ 128
put_fits mask ch h = or_lt 128 mask (1 * 2 ^ (ch - 1) % 2 ^ 128) h (omega arith)

pub taken_fits : (mask ch : ℕ) → mask < 2 ^ 128 → taken mask ch < 2 ^ 128
taken_fits mask ch h = omega (arith, h, and_le_l mask (bit_not w128 (1 * 2 ^ (ch - 1) % 2 ^ 128)))

pub taken_same : (mask ch : ℕ) → 1 ≤ ch → ch ≤ 128 → in_mask (taken mask ch) ch ≡ false
taken_same mask ch some few = let z = bit_at_clear_same w128 mask (ch - 1) (omega (arith, some, few)) in grind (arith, common_steps, z, some)

-- a bit past the width is of neither number
pub taken_other : (mask ch k : ℕ) → mask < 2 ^ 128 → 1 ≤ ch → ch ≤ 128 → k ≢ ch → in_mask (taken mask ch) k ≡ in_mask mask k
taken_other mask ch zero fits some few n = refl
taken_other mask ch (suc j) fits some few n = elim (split_at (suc j) 128) [
  | inl within ↦
      same_bit (taken mask ch) mask (suc j)
      (bit_at_clear_other w128 mask (ch - 1) (omega (arith, some, few)) (suc j - 1) (omega (arith, within)) (apart ch (suc j) some (omega arith) n))
  | inr past ↦ in_beyond (taken mask ch) (suc j) (taken_fits mask ch fits) past ∙ sym (in_beyond mask (suc j) fits past)
]

-- the lowest channel of a set that is not empty
pub lowest_in : (mask : ℕ) → mask < 2 ^ 128 → 0 < mask → in_mask mask (trailing_zeros w128 mask + 1) ≡ true
lowest_in mask fits some =
    let z : bit_at mask (trailing_zeros w128 mask) ≡ 1 = (bit_at-trailing_zeros w128 mask some fits).1 in
    let p : trailing_zeros w128 mask + 1 - 1 ≡ trailing_zeros w128 mask = omega arith in
    let q : bit_at mask (trailing_zeros w128 mask + 1 - 1) ≡ 1 = ap (bit_at mask) p ∙ z in
    in_by_bit mask (trailing_zeros w128 mask + 1) (omega arith) q

pub lowest_below : (mask k : ℕ) → mask < 2 ^ 128 → 0 < mask → k < trailing_zeros w128 mask + 1 → in_mask mask k ≡ false
lowest_below mask zero fits some below = refl
lowest_below mask (suc j) fits some below =
    out_by_bit mask (suc j) ((bit_at-trailing_zeros w128 mask some fits).2 (suc j - 1) (omega (arith, below)))
