-- Registers by their bits.
use Rattle.std.proofs.Common.{◌≡◌, ℕ, zero, suc, ◌+◌, ◌-◌, ◌*◌, ◌^◌, ◌<◌, Bool, true, false, not, ◌&&◌, ◌||◌, ◌⊎◌, refl, sym, ap, ◌∙◌, arith, add-zero, inl}
use Rattle.std.proofs.Common.{inr, bit_and, bit_or, w8, w16}
use Rattle.std.specs.Prelude.{◌==◌}
use Rattle.std.specs.Int.{bit_at}
use Rattle.std.proofs.Math.Nat.{two-pow-succ}
use Rattle.std.proofs.lemmas.Nat.{and_le_l, and_le_r, or_lt}
use Rattle.std.proofs.lemmas.Nat.Bits.{bit_at_and, bit_at_or, bit_at_not, bit_at-lt, bit_at_cat_low, bit_at_cat_high, bit_at_above, bit_at-zero}
use Rattle.std.proofs.lemmas.Nat.Bits.{same_from_bits_below}
use Rattle.std.proofs.lemmas.Bool.{cases_Bool, cases_lt}
use Rattle.sw_status.specs.Registers.{has_bit, register, low_15, latches, latched}
use Rattle.sw_status.specs.StatusModel.{arises}

-- a bit is 0 or 1
pub bit_cases : (n k : ℕ) → (bit_at n k ≡ 0) ⊎ (bit_at n k ≡ 1)
bit_cases n k = let h = bit_at-lt n k in elim (cases_lt (bit_at n k) 1) [ inl z ↦ inl (omega arith) | inr o ↦ inr (omega arith) ]

pub has-and : (a b k : ℕ) → has_bit (bit_and a b) k ≡ (has_bit a k && has_bit b k)
has-and a b k =
    rw (bit_at_and a b k)
    (elim (bit_cases a k) [
      | inl e ↦ rw e (elim (bit_cases b k) [ inl f ↦ rw f refl | inr f ↦ rw f refl ])
      | inr e ↦ rw e (elim (bit_cases b k) [ inl f ↦ rw f refl | inr f ↦ rw f refl ])
    ])

pub has-or : (a b k : ℕ) → has_bit (bit_or a b) k ≡ (has_bit a k || has_bit b k)
has-or a b k =
    rw (bit_at_or a b k)
    (elim (bit_cases a k) [
      | inl e ↦ rw e (elim (bit_cases b k) [ inl f ↦ rw f refl | inr f ↦ rw f refl ])
      | inr e ↦ rw e (elim (bit_cases b k) [ inl f ↦ rw f refl | inr f ↦ rw f refl ])
    ])

pub has-not_16 : (n k : ℕ) → n < 2 ^ 16 → k < 16 → has_bit (65535 - n) k ≡ not (has_bit n k)
has-not_16 n k small within =
    rw (bit_at_not w16 n k small within)
    (elim (bit_cases n k) [ inl e ↦ rw e refl | inr e ↦ rw e refl ])

pub has-not_8 : (n k : ℕ) → n < 2 ^ 8 → k < 8 → has_bit (255 - n) k ≡ not (has_bit n k)
has-not_8 n k small within =
    rw (bit_at_not w8 n k small within)
    (elim (bit_cases n k) [ inl e ↦ rw e refl | inr e ↦ rw e refl ])

-- numbers of w bits that have the same bits are equal
pub same_register : (w a b : ℕ) → a < 2 ^ w → b < 2 ^ w → ((k : ℕ) → k < w → has_bit a k ≡ has_bit b k) → a ≡ b
same_register w a b p q same = same_from_bits_below w a b p q (λ k h. one k (same k h))
  where
    one : (k : ℕ) → has_bit a k ≡ has_bit b k → bit_at a k ≡ bit_at b k
    one k e =
        elim (bit_cases a k) [
          | inl x ↦ elim (bit_cases b k) [ inl y ↦ x ∙ sym y | inr y ↦ absurd (let z : false ≡ true = rw (x, y) at e in cc) ]
          | inr x ↦ elim (bit_cases b k) [ inl y ↦ absurd (let z : true ≡ false = rw (x, y) at e in cc) | inr y ↦ x ∙ sym y ]
        ]

pub register-lt : (w : ℕ) (test : ℕ → Bool) → register w test < 2 ^ w
unfolding register
register-lt zero test = omega arith
register-lt (suc w) test =
    let ih = register-lt w test in
    let p : 2 ^ (suc w) ≡ 2 ^ w + 2 ^ w = two-pow-succ w in
    elim (cases_Bool (test w)) [
      | inl e ↦ rw e (omega arith)
      | inr e ↦ rw e (omega arith)
    ]

low_kept : (w n k : ℕ) → k < w → bit_at (n + 2 ^ w) k ≡ bit_at n k
low_kept w n k h = let e : n + 2 ^ w ≡ 1 * 2 ^ w + n = omega arith in rw e (bit_at_cat_low 1 w n k h)

top_set : (w n : ℕ) → n < 2 ^ w → bit_at (n + 2 ^ w) w ≡ 1
top_set w n h =
    let e : n + 2 ^ w ≡ 1 * 2 ^ w + n = omega arith in
    let z : w - w ≡ 0 = omega arith in
    let q : bit_at (1 * 2 ^ w + n) w ≡ bit_at 1 (w - w) = bit_at_cat_high 1 w n w h (omega arith) in
    rw e (q ∙ ap (λ i. bit_at 1 i) z)

pub has-register : (w : ℕ) (test : ℕ → Bool) (k : ℕ) → k < w → has_bit (register w test) k ≡ test k
unfolding register
has-register zero test k h = absurd (omega arith)
has-register (suc w) test k h =
    elim (cases_Bool (test w)) [
      | inl e ↦ rw e (elim (cases_lt k w) [
        | inl below ↦ rw (low_kept w (register w test) k below) (has-register w test k below)
        | inr top ↦ let i : k ≡ w = omega arith in rw i (rw (top_set w (register w test) (register-lt w test)) (sym e))
      ])
      | inr e ↦ rw e (elim (cases_lt k w) [
        | inl below ↦ rw add-zero (has-register w test k below)
        | inr top ↦ let i : k ≡ w = omega arith in rw i (rw (add-zero, bit_at_above (register w test) w w (register-lt w test) (omega arith)) (sym e))
      ])
    ]

-- a number of w bits is the register of its bits
pub is_register : (w n : ℕ) (test : ℕ → Bool) → n < 2 ^ w → ((k : ℕ) → k < w → has_bit n k ≡ test k) → n ≡ register w test
is_register w n test small same = same_register w n (register w test) small (register-lt w test) (λ k h. same k h ∙ sym (has-register w test k h))

pub low_15_small : (n : ℕ) → low_15 n < 2 ^ 15
low_15_small n = let h = and_le_r n 0x7fff in omega arith

-- what the code computes for the event register
abbrev pub latched_word : ℕ → ℕ → ℕ → ℕ → ℕ → ℕ
latched_word event ptr ntr old new = bit_or event (bit_or (bit_and (bit_and (65535 - old) new) ptr) (bit_and (bit_and old (65535 - new)) ntr))

pub latched_small : (event ptr ntr old new : ℕ) → event < 2 ^ 15 → ptr < 2 ^ 15 → ntr < 2 ^ 15 → latched_word event ptr ntr old new < 2 ^ 15
latched_small event ptr ntr old new e p n =
    let rise = bit_and (bit_and (65535 - old) new) ptr in
    let fall = bit_and (bit_and old (65535 - new)) ntr in
    let a : rise < 2 ^ 15 = (let h = and_le_r (bit_and (65535 - old) new) ptr in omega arith) in
    let b : fall < 2 ^ 15 = (let h = and_le_r (bit_and old (65535 - new)) ntr in omega arith) in
    or_lt 15 event (bit_or rise fall) e (or_lt 15 rise fall a b)

pub latched_is : (event ptr ntr old new : ℕ) → event < 2 ^ 15 → ptr < 2 ^ 15 → ntr < 2 ^ 15 → old < 2 ^ 15 → new < 2 ^ 15
    → latched_word event ptr ntr old new ≡ latched event ptr ntr old new
unfolding latched
latched_is event ptr ntr old new e p n o w =
    is_register 15 (latched_word event ptr ntr old new) (latches event ptr ntr old new) (latched_small event ptr ntr old new e p n) (λ k h. bit k h)
  where
    bit : (k : ℕ) → k < 15 → has_bit (latched_word event ptr ntr old new) k ≡ latches event ptr ntr old new k
    bit k h =
        let a : has_bit (65535 - old) k ≡ not (has_bit old k) = has-not_16 old k (omega arith) (omega arith) in
        let b : has_bit (65535 - new) k ≡ not (has_bit new k) = has-not_16 new k (omega arith) (omega arith) in
        simp (has-or, has-and, a, b)

-- what the code computes for a new request
pub arises_is : (before now : ℕ) → before < 2 ^ 8 → now < 2 ^ 8 → arises before now ≡ not (bit_and now (255 - before) == 0)
unfolding arises
arises_is before now p q =
    let small : bit_and now (255 - before) < 2 ^ 8 = (let h = and_le_l now (255 - before) in omega arith) in
    let e : bit_and now (255 - before) ≡ register 8 (λ k. has_bit now k && not (has_bit before k)) =
    is_register 8 (bit_and now (255 - before)) (λ k. has_bit now k && not (has_bit before k)) small
    (λ k h. let a = has-not_8 before k p h in simp (has-and, a)) in
    ap (λ n. not (n == 0)) (sym e)

-- a register in which no bit passes is 0
pub register-none : (w : ℕ) (test : ℕ → Bool) → ((k : ℕ) → k < w → test k ≡ false) → register w test ≡ 0
unfolding register
register-none zero test none = refl
register-none (suc w) test none =
    let here : test w ≡ false = none w (omega arith) in
    rw here (rw add-zero (register-none w test (λ k h. none k (omega arith))))

-- a register that isn't 0 has a bit
pub register-some : (w : ℕ) (test : ℕ → Bool) → (register w test ≡ 0 → ⊥) → (k : ℕ) × (k < w) × (test k ≡ true)
unfolding register
register-some zero test some = absurd (some refl)
register-some (suc w) test some =
    elim (cases_Bool (test w)) [
      | inl on ↦ (w, omega arith, on)
      | inr off ↦
          let rest : register w test ≡ 0 → ⊥ = (λ z. some (rw off (rw add-zero z))) in
          let below = register-some w test rest in
          (below.0, (let h = below.1 in omega arith), below.2)
    ]

-- a register with a bit isn't 0
pub register-bit : (w : ℕ) (test : ℕ → Bool) (k : ℕ) → k < w → test k ≡ true → register w test ≡ 0 → ⊥
register-bit w test k h on z =
    let e : has_bit (register w test) k ≡ true = has-register w test k h ∙ on in
    let f : has_bit 0 k ≡ true = rw z at e in
    let g : has_bit 0 k ≡ false = rw (bit_at-zero k) refl in
    absurd (let x : true ≡ false = sym f ∙ g in cc)
