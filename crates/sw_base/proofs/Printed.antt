-- Digits as they are printed.
use Rattle.std.proofs.Common.{◌≡◌, ℕ, zero, suc, ◌+◌, ◌-◌, ◌*◌, ◌/◌, ◌%◌, ◌^◌, ◌<◌, ◌≤◌, List, [], ◌∷◌, ◌++◌, length, get_or, take, drop, set, refl, sym, ap}
use Rattle.std.proofs.Common.{◌∙◌, inl, inr, arith, add-one, Bool, true, ◌&&◌, T, eqb, eqb→eq}
use Rattle.std.specs.Prelude.{pos, negsuc, codes}
use Rattle.std.proofs.Math.Nat.{div-one, div-div-eq-div-mul, pow-succ', div-le_self}
use Rattle.std.proofs.lemmas.Bool.{cases_lt}
use Rattle.std.specs.Fmt.{decimal}
use Rattle.std.proofs.lemmas.List.{append_assoc, drop-set, length_push, length-append, length-drop, take_more_set, take_at, drop-set-lt, drop-drop, drop_at}
use Rattle.std.proofs.lemmas.List.{length-set, set_comm, take-append-drop}
use Rattle.std.proofs.lemmas.List.{same_from_push, get_or_append_left}
use Rattle.std.proofs.lemmas.Fmt.{decimal_digit, decimal_step, decimal_by_steps, decimal_nonempty, first_decimal, decimal_injective}
use lib.Ieee.Fits.{and_l, and_r}
use Rattle.sw_base.specs.declared.reading.TheConstants.{PAIRS}
use Rattle.sw_base.specs.Reading.{last_digits, fixed, reading_text, IsBounded}
use Rattle.sw_base.specs.declared.reading.Reading.{Reading}
use Rattle.sw_base.specs.declared.reading.Reading.TheVariants.{Volts, Overload}

pub last_digits_push : (k n : ℕ) → last_digits (suc k) n ≡ last_digits k (n / 10) ++ (48 + n % 10) ∷ []
unfolding last_digits
last_digits_push k n = refl

pub last_digits_none : (n : ℕ) → last_digits 0 n ≡ []
unfolding last_digits
last_digits_none n = refl

pub length-last_digits : (k n : ℕ) → length (last_digits k n) ≡ k
unfolding last_digits
length-last_digits zero n = refl
length-last_digits (suc k) n = length_push (last_digits k (n / 10)) (48 + n % 10) ∙ ap (λ m. m + 1) (length-last_digits k (n / 10)) ∙ add-one k

-- one digit is written before those behind it
pub one_digit : (start end left : ℕ) (buffer : List ℕ) → start < end → end ≤ length buffer
    → last_digits (end - 1 - start) (left / 10) ++ drop (end - 1) (set buffer (end - 1) (48 + left % 10)) ≡ last_digits (end - start) left ++ drop end buffer
one_digit start end left buffer low high =
    let k : end - start ≡ suc (end - 1 - start) = omega arith in
    let at : end - 1 < length buffer = omega arith in
    let next : end - 1 + 1 ≡ end = omega arith in
    rw (k, last_digits_push, drop-set buffer (end - 1) (48 + left % 10) at, next, append_assoc) refl

-- two digits are written before those behind them
pub two_digits : (start end left : ℕ) (buffer : List ℕ) → start + 1 < end → end ≤ length buffer
    → last_digits (end - 2 - start) (left / 100) ++ drop (end - 2) (set (set buffer (end - 2) (48 + left % 100 / 10)) (end - 2 + 1) (48 + left % 100 % 10))
    ≡ last_digits (end - start) left ++ drop end buffer
two_digits start end left buffer low high =
    let ones : List ℕ = set buffer (end - 1) (48 + left % 10) in
    let size : length ones ≡ length buffer = length-set buffer (end - 1) (48 + left % 10) in
    let inner = one_digit start (end - 1) (left / 10) ones (omega arith) (omega arith) in
    let a : end - 1 - 1 ≡ end - 2 = omega arith in
    let b : left / 10 / 10 ≡ left / 100 = omega arith in
    let c : left / 10 % 10 ≡ left % 100 / 10 = omega arith in
    let d : left % 10 ≡ left % 100 % 10 = omega arith in
    let e : end - 1 ≡ end - 2 + 1 = omega arith in
    let swapped : set ones (end - 2) (48 + left % 100 / 10) ≡ set (set buffer (end - 2) (48 + left % 100 / 10)) (end - 2 + 1) (48 + left % 100 % 10) =
    rw (d, e) (set_comm buffer (end - 2 + 1) (end - 2) (48 + left % 100 % 10) (48 + left % 100 / 10) (λ x. omega arith)) in
    rw (← swapped) ((rw (a, b, c) at inner) ∙ one_digit start end left buffer (omega arith) high)

-- the two digits of each number below 100 stand in the row of pairs
abbrev are_pairs : ℕ → Bool
are_pairs zero = true
are_pairs (suc p) = (eqb (get_or PAIRS (p * 2) 0) (48 + p / 10) && eqb (get_or PAIRS (p * 2 + 1) 0) (48 + p % 10)) && are_pairs p

pairs_below : (n p : ℕ) → T (are_pairs n) → p < n → (get_or PAIRS (p * 2) 0 ≡ 48 + p / 10) × (get_or PAIRS (p * 2 + 1) 0 ≡ 48 + p % 10)
pairs_below zero p t h = absurd (omega arith)
pairs_below (suc n) p t h =
    elim (cases_lt p n) [
      | inl less ↦ pairs_below n p (and_r _ (are_pairs n) t) less
      | inr more ↦ let e : p ≡ n = omega arith in let a = and_l _ (are_pairs n) t in rw e (eqb→eq _ _ (and_l _ _ a), eqb→eq _ _ (and_r _ _ a))
    ]

pub pair_at : (p : ℕ) → p < 100 → (get_or PAIRS (p * 2) 0 ≡ 48 + p / 10) × (get_or PAIRS (p * 2 + 1) 0 ≡ 48 + p % 10)
pair_at p h = pairs_below 100 p tt h

-- a number is its last digits, as many as it has
pub last_digits-decimal : (n : ℕ) → n < 2 ^ 64 → last_digits (length (decimal n)) n ≡ decimal n
last_digits-decimal n small =
    let P : ℕ → List ℕ → Type 0 = λ m ds. last_digits (length ds) m ≡ ds in
    decimal_by_steps P (λ m below. one_alone m below) (λ m ds from more. last_more m ds more) n small
  where
    one_alone : (m : ℕ) → m < 10 → last_digits 1 m ≡ (48 + m) ∷ []
    one_alone m below = let e : m % 10 ≡ m = omega arith in last_digits_push 0 m ∙ rw (last_digits_none, e) refl

    last_more : (m : ℕ) (ds : List ℕ) → last_digits (length ds) (m / 10) ≡ ds → last_digits (length (ds ++ (48 + m % 10) ∷ [])) m ≡ ds ++ (48 + m % 10) ∷ []
    last_more m ds more = rw (length_push, add-one, last_digits_push, more) refl

-- the digits of a tenth are one fewer
pub length-decimal_step : (n : ℕ) → 10 ≤ n → n < 2 ^ 64 → length (decimal n) ≡ length (decimal (n / 10)) + 1
length-decimal_step n from small = ap length (decimal_step n from small) ∙ length_push (decimal (n / 10)) (48 + n % 10)

pub length-decimal_digit : (n : ℕ) → n < 10 → length (decimal n) ≡ 1
length-decimal_digit n below = ap length (decimal_digit n below)

-- a number of one digit is put in its place
pub one_alone : (old : List ℕ) (start n : ℕ) → start < length old → n < 10 → set old start (48 + n) ≡ take start old ++ (decimal n ++ drop (start + 1) old)
one_alone old start n within below =
    let new : List ℕ = set old start (48 + n) in
    let front : take (start + 1) new ≡ take start old ++ (48 + n) ∷ [] = take_more_set old start (48 + n) within in
    let back : drop (start + 1) new ≡ drop (start + 1) old = drop-set-lt (start + 1) old start (48 + n) (omega arith) in
    sym (take-append-drop (start + 1) new)
    ∙ rw (front, back, decimal_digit n below) (append_assoc (take start old) ((48 + n) ∷ []) (drop (start + 1) old))

-- a point put behind what was written, and digits behind the point
pub one_point : (old front digits more : List ℕ) (p places : ℕ) → length front + length digits ≡ p → p < length old
    → take (p + 1) (set (front ++ (digits ++ drop p old)) p 46) ++ (more ++ drop (p + 1 + places) (set (front ++ (digits ++ drop p old)) p 46))
    ≡ front ++ (digits ++ 46 ∷ more) ++ drop (p + 1 + places) old
one_point old front digits more p places long within =
    let whole : List ℕ = (front ++ digits) ++ drop p old in
    let at : length (front ++ digits) ≡ p = length-append front digits ∙ long in
    let room : p < length whole = omega (arith, length-append (front ++ digits) (drop p old), length-drop p old) in
    let left : take (p + 1) (set whole p 46) ≡ (front ++ digits) ++ 46 ∷ [] = take_more_set whole p 46 room
    ∙ rw (take_at (front ++ digits) (drop p old) p at) refl in
    let far : p + 1 + places ≡ p + (1 + places) = omega arith in
    let right : drop (p + 1 + places) (set whole p 46) ≡ drop (p + 1 + places) old =
    drop-set-lt (p + 1 + places) whole p 46 (omega arith)
    ∙ rw (far, ← drop-drop (1 + places) p whole, drop_at (front ++ digits) (drop p old) p at, drop-drop (1 + places) p old) refl in
    let same : front ++ (digits ++ drop p old) ≡ whole = sym (append_assoc front digits (drop p old)) in
    rw (same, left, right) (simp append_assoc)

same_fronts : (xs ys s t : List ℕ) → length xs ≡ length ys → xs ++ s ≡ ys ++ t → (xs ≡ ys) × (s ≡ t)
same_fronts xs ys s t h e = (
  sym (take_at xs s (length xs) refl) ∙ ap (take (length xs)) e ∙ take_at ys t (length xs) (sym h),
  sym (drop_at xs s (length xs) refl) ∙ ap (drop (length xs)) e ∙ drop_at ys t (length xs) (sym h),
)

-- the digits in front of some place, and those behind it, make the number
same_number : (k n m : ℕ) → n / 10 ^ k ≡ m / 10 ^ k → last_digits k n ≡ last_digits k m → n ≡ m
same_number zero n m h e = sym (div-one n) ∙ h ∙ div-one m
same_number (suc k) n m h e =
    let parts = same_from_push (last_digits k (n / 10)) (last_digits k (m / 10)) (48 + n % 10) (48 + m % 10) (sym (last_digits_push k n) ∙ e
    ∙ last_digits_push k m) in
    let ten : 10 ^ suc k ≡ 10 * 10 ^ k = pow-succ' 10 k in
    let fronts : n / 10 / 10 ^ k ≡ m / 10 / 10 ^ k = div-div-eq-div-mul n 10 (10 ^ k) ∙ (rw ten at h) ∙ sym (div-div-eq-div-mul m 10 (10 ^ k)) in
    let tenths : n / 10 ≡ m / 10 = same_number k (n / 10) (m / 10) fronts parts.0 in
    let ones : 48 + n % 10 ≡ 48 + m % 10 = parts.1 in
    omega arith

length-fixed : (places n : ℕ) → length (fixed places n) ≡ length (decimal (n / 10 ^ places)) + (1 + places)
length-fixed places n = length-append (decimal (n / 10 ^ places)) (46 ∷ last_digits places n)
    ∙ ap (λ (k : ℕ). length (decimal (n / 10 ^ places)) + k) (ap suc (length-last_digits places n) ∙ one_before places)
  where
    one_before : (k : ℕ) → suc k ≡ 1 + k
    one_before k = omega arith

fixed_same : (places n m : ℕ) → n < 2 ^ 64 → m < 2 ^ 64 → fixed places n ≡ fixed places m → n ≡ m
fixed_same places n m p q e =
    let a = n / 10 ^ places in
    let b = m / 10 ^ places in
    let low : a ≤ n = div-le_self n (10 ^ places) in
    let high : b ≤ m = div-le_self m (10 ^ places) in
    let long : length (decimal a) ≡ length (decimal b) = omega (arith, ap length e, length-fixed places n, length-fixed places m) in
    let parts = same_fronts (decimal a) (decimal b) (46 ∷ last_digits places n) (46 ∷ last_digits places m) long e in
    let front : a ≡ b = decimal_injective a b (omega arith) (omega arith) parts.0 in
    let back : last_digits places n ≡ last_digits places m = let f = parts.1 in cc in
    same_number places n m front back

-- no number's text begins with a minus
fixed_first : (places n : ℕ) (rest : List ℕ) → n < 2 ^ 64 → fixed places n ≡ 45 ∷ rest → ⊥
fixed_first places n rest p e =
    let a = n / 10 ^ places in
    let low : a ≤ n = div-le_self n (10 ^ places) in
    let some : 0 < length (decimal a) = decimal_nonempty a (omega arith) in
    let first : get_or (decimal a) 0 0 ≡ 45 = sym (get_or_append_left (decimal a) (46 ∷ last_digits places n) 0 0 some)
    ∙ ap (λ (xs : List ℕ). get_or xs 0 0) e in
    elim (cases_lt 0 a) [
      | inl above ↦ omega (arith, first_decimal a above (omega arith), first)
      | inr none ↦ let zero_is : a ≡ 0 = omega arith in let text : decimal a ≡ 48 ∷ [] = rw zero_is (decimal_digit 0 (omega arith)) in
          omega (arith, first, ap (λ (xs : List ℕ). get_or xs 0 0) text)
    ]

-- a reading in volts is longer than the text of an overload
not_overload : (n : ℕ) → n < 2 ^ 64 → fixed 9 n ≡ codes "9.9E+37" → ⊥
not_overload n p e =
    let low : n / 10 ^ 9 ≤ n = div-le_self n (10 ^ 9) in
    omega (arith, ap length e, length-fixed 9 n, decimal_nonempty (n / 10 ^ 9) (omega arith))

pub reading_text_same : (r s : Reading) → IsBounded r → IsBounded s → reading_text r ≡ reading_text s → r ≡ s
reading_text_same (Volts (pos n)) (Volts (pos m)) p q e = ap (λ k. Volts (pos k)) (fixed_same 9 n m p q e)
reading_text_same (Volts (pos n)) (Volts (negsuc m)) p q e = absurd (fixed_first 9 n (fixed 9 (suc m)) p e)
reading_text_same (Volts (pos n)) Overload p q e = absurd (not_overload n p e)
reading_text_same (Volts (negsuc n)) (Volts (pos m)) p q e = absurd (fixed_first 9 m (fixed 9 (suc n)) q (sym e))
reading_text_same (Volts (negsuc n)) (Volts (negsuc m)) p q e = let same : suc n ≡ suc m = fixed_same 9 (suc n) (suc m) p q (let t = e in cc) in
    let less : n ≡ m = omega arith in ap (λ k. Volts (negsuc k)) less
reading_text_same (Volts (negsuc n)) Overload p q e = let f : ◌≡◌ {A = ℕ} 45 57 = cc in absurd (omega (arith, f))
reading_text_same Overload (Volts (pos m)) p q e = absurd (not_overload m q (sym e))
reading_text_same Overload (Volts (negsuc m)) p q e = let f : ◌≡◌ {A = ℕ} 57 45 = cc in absurd (omega (arith, f))
reading_text_same Overload Overload p q e = refl
