-- The digit behind the point decides how a number is rounded.
use Rattle.std.proofs.Common.{◌≡◌, ℕ, suc, ◌+◌, ◌-◌, ◌*◌, ◌/◌, ◌^◌, ◌<◌, ◌≤◌, pos, negsuc, neg_ℤ, ◌-ℤ◌, true, List, [], ◌∷◌, ◌++◌, length, get_or, take, drop}
use Rattle.std.proofs.Common.{refl, sym, ap, ◌∙◌, subst, inl, inr, arith, add-one, add-zero}
use Rattle.std.proofs.lemmas.List.{length-append, append_assoc, drop_more, take-append-drop, length-drop}
use Rattle.std.proofs.lemmas.Nat.{div-mul-add}
use Rattle.std.proofs.lemmas.Int.{ints}
use Rattle.std.proofs.lemmas.Bool.{cases_lt}
use Rattle.std.proofs.lemmas.Grind.{common_steps}
use Rattle.std.proofs.Math.Nat.{pow-suc, mul-le-mul_right, mul-le-mul_left, pow-le-pow_right, div-eq_of_lt, one-le-pow}
use Rattle.sw_base.specs.Text.{is_digit, AllPass}
use Rattle.sw_base.specs.Number.{value_after, value_of, magnitude}
use Rattle.sw_base.proofs.Runs.{AllPass-right, AllPass-append}
use Rattle.sw_base.proofs.Values.{value_after-append, carry, carry_up, carry_down}

-- digits behind a number move it up by as many places
pub value_after-split : (n : ℕ) (digits : List ℕ) → value_after n digits ≡ n * 10 ^ length digits + value_of digits
value_after-split n [] = omega arith
value_after-split n (b ∷ digits) =
    let q = 10 ^ length digits in
    let here : value_after (n * 10 + (b - 48)) digits ≡ (n * 10 + (b - 48)) * q + value_of digits = value_after-split (n * 10 + (b - 48)) digits in
    let alone : value_after (0 * 10 + (b - 48)) digits ≡ (0 * 10 + (b - 48)) * q + value_of digits = value_after-split (0 * 10 + (b - 48)) digits in
    let ten : 10 ^ suc (length digits) ≡ q * 10 = pow-suc 10 (length digits) in
    rw (here, alone, ten) (grind arith)

pub digit_below : (b : ℕ) → is_digit b ≡ true → b - 48 ≤ 9
digit_below b h = grind (arith, common_steps)

pub value_lt : (digits : List ℕ) → AllPass is_digit digits → value_of digits < 10 ^ length digits
value_lt [] h = omega arith
value_lt (b ∷ digits) h =
    let q = 10 ^ length digits in
    let rest : value_of digits < q = value_lt digits h.1 in
    let first : (b - 48) * q ≤ 9 * q = mul-le-mul_right q (digit_below b h.0) in
    let ten : 10 ^ suc (length digits) ≡ q * 10 = pow-suc 10 (length digits) in
    let alone : value_after (0 * 10 + (b - 48)) digits ≡ (0 * 10 + (b - 48)) * q + value_of digits = value_after-split (0 * 10 + (b - 48)) digits in
    rw (alone, ten) (grind arith)

-- the quotient that rounds, with d the digit behind the point and c what follows it
round_up : (a d c q : ℕ) → 5 ≤ d → d ≤ 9 → c < q → (2 * (a * (q * 10) + (d * q + c)) + q * 10) / (2 * (q * 10)) ≡ a + 1
round_up a d c q low high below =
    let t = d * q in
    let from : 5 * q ≤ t = mul-le-mul_right q low in
    let to : t ≤ 9 * q = mul-le-mul_right q high in
    let r = (2 * t + 2 * c) - 10 * q in
    let sum : 2 * (a * (q * 10) + (t + c)) + q * 10 ≡ (a + 1) * (2 * (q * 10)) + r = grind arith in
    let room : r < 2 * (q * 10) = omega arith in
    rw sum (div-mul-add (a + 1) (2 * (q * 10)) r room)

round_down : (a d c q : ℕ) → d ≤ 4 → c < q → (2 * (a * (q * 10) + (d * q + c)) + q * 10) / (2 * (q * 10)) ≡ a
round_down a d c q high below =
    let t = d * q in
    let to : t ≤ 4 * q = mul-le-mul_right q high in
    let r = 2 * t + 2 * c + q * 10 in
    let sum : 2 * (a * (q * 10) + (t + c)) + q * 10 ≡ a * (2 * (q * 10)) + r = grind arith in
    let room : r < 2 * (q * 10) = omega arith in
    rw sum (div-mul-add a (2 * (q * 10)) r room)

-- the number with the point in front of the last digits, d the first of them
pub nearest_is : (front : List ℕ) (d : ℕ) (more : List ℕ) → AllPass is_digit (d ∷ more)
    → magnitude (value_of (front ++ d ∷ more)) (negsuc (length more)) ≡ value_of front + carry d
unfolding magnitude
nearest_is front d more h =
    let k = length more in
    let q = 10 ^ k in
    let c = value_of more in
    let below : c < q = value_lt more h.1 in
    let high : d - 48 ≤ 9 = digit_below d h.0 in
    let ten : 10 ^ (k + 1) ≡ q * 10 = ap (λ (i : ℕ). 10 ^ i) (add-one k) ∙ pow-suc 10 k in
    let last : value_of (d ∷ more) ≡ (d - 48) * q + c = value_after-split (0 * 10 + (d - 48)) more ∙ ap (λ (i : ℕ). i * q + c) (omega arith) in
    let whole : value_of (front ++ d ∷ more) ≡ value_of front * (q * 10) + ((d - 48) * q + c) =
    value_after-append 0 front (d ∷ more) ∙ value_after-split (value_of front) (d ∷ more) ∙ rw (pow-suc 10 k, last) refl in
    rw (whole, ten) (elim (cases_lt d 53) [
      | inl down ↦ rw (carry_down d down) (round_down (value_of front) (d - 48) c q (omega arith) below ∙ sym (add-zero (value_of front)))
      | inr up ↦ rw (carry_up d up) (round_up (value_of front) (d - 48) c q (omega arith) high below)
    ])

-- the point moved to the right, to within the fraction
pub right_near : (whole fraction : List ℕ) (k : ℕ) → k < length fraction → AllPass is_digit fraction
    → magnitude (value_of (whole ++ fraction)) (pos k -ℤ pos (length fraction)) ≡ value_of (whole ++ take k fraction) + carry (get_or fraction k 0)
right_near whole fraction k within h =
    let d = get_or fraction k 0 in
    let more = drop (k + 1) fraction in
    let cut : fraction ≡ take k fraction ++ d ∷ more = sym (take-append-drop k fraction) ∙ ap (λ t. take k fraction ++ t) (drop_more fraction k 0 within) in
    let digits : AllPass is_digit (d ∷ more) = AllPass-right is_digit (take k fraction) (d ∷ more) (subst (AllPass is_digit) cut h) in
    let text : whole ++ fraction ≡ (whole ++ take k fraction) ++ d ∷ more = ap (λ t. whole ++ t) cut ∙ sym (append_assoc whole (take k fraction) (d ∷ more)) in
    let place : pos k -ℤ pos (length fraction) ≡ negsuc (length more) = omega (arith, ints, length-drop (k + 1) fraction) in
    rw (place, text) (nearest_is (whole ++ take k fraction) d more digits)

-- the point moved to the right, past the fraction
pub right_far : (m k l : ℕ) → l ≤ k → magnitude m (pos k -ℤ pos l) ≡ m * 10 ^ (k - l)
unfolding magnitude
right_far m k l far =
    let place : pos k -ℤ pos l ≡ pos (k - l) = omega (arith, ints) in
    rw place refl

-- the point moved to the left, to within the whole part
pub left_near : (whole fraction : List ℕ) (point places : ℕ) → 0 < places → point + places ≡ length whole → AllPass is_digit whole → AllPass is_digit fraction
    → magnitude (value_of (whole ++ fraction)) (neg_ℤ (pos places) -ℤ pos (length fraction)) ≡ value_of (take point whole) + carry (get_or whole point 0)
left_near whole fraction point places some at h g =
    let d = get_or whole point 0 in
    let more = drop (point + 1) whole ++ fraction in
    let within : point < length whole = omega arith in
    let cut : whole ≡ take point whole ++ d ∷ drop (point + 1) whole = sym (take-append-drop point whole)
    ∙ ap (λ t. take point whole ++ t) (drop_more whole point 0 within) in
    let text : whole ++ fraction ≡ take point whole ++ d ∷ more = ap (λ t. t ++ fraction) cut
    ∙ append_assoc (take point whole) (d ∷ drop (point + 1) whole) fraction in
    let digits : AllPass is_digit (d ∷ more) =
    AllPass-right is_digit (take point whole) (d ∷ more) (subst (AllPass is_digit) text (AllPass-append is_digit whole fraction h g)) in
    let place : neg_ℤ (pos places) -ℤ pos (length fraction) ≡ negsuc (length more) =
    omega (arith, ints, length-append (drop (point + 1) whole) fraction, length-drop (point + 1) whole) in
    rw (place, text) (nearest_is (take point whole) d more digits)

-- the point moved to the left, past the whole part
pub left_far : (whole fraction : List ℕ) (places : ℕ) → length whole < places → AllPass is_digit whole → AllPass is_digit fraction
    → magnitude (value_of (whole ++ fraction)) (neg_ℤ (pos places) -ℤ pos (length fraction)) ≡ 0
unfolding magnitude
left_far whole fraction places far h g =
    let j = places + length fraction - 1 in
    let m = value_of (whole ++ fraction) in
    let small : m < 10 ^ length (whole ++ fraction) = value_lt (whole ++ fraction) (AllPass-append is_digit whole fraction h g) in
    let ten : 0 < 10 = omega arith in
    let most : 10 ^ length (whole ++ fraction) ≤ 10 ^ j = pow-le-pow_right ten (omega (arith, length-append whole fraction)) in
    let next : 10 ^ (j + 1) ≡ 10 ^ j * 10 = ap (λ (i : ℕ). 10 ^ i) (add-one j) ∙ pow-suc 10 j in
    let below : 2 * m + 10 ^ (j + 1) < 2 * 10 ^ (j + 1) = omega arith in
    let place : neg_ℤ (pos places) -ℤ pos (length fraction) ≡ negsuc j = omega (arith, ints) in
    rw place (div-eq_of_lt below)

pub at_least : (m k : ℕ) → m ≤ m * 10 ^ k
at_least m k = let ten : 0 < 10 = omega arith in let some : 1 ≤ 10 ^ k = one-le-pow k 10 ten in omega (arith, mul-le-mul_left m some)
