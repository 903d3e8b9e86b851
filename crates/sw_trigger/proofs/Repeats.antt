-- A list repeated.
use Rattle.std.proofs.Common.{◌≡◌, ℕ, zero, suc, ◌+◌, ◌-◌, ◌*◌, ◌%◌, ◌<◌, ◌≤◌, List, [], ◌∷◌, ◌++◌, length, refl, sym, ap, ◌∙◌, ⊎_elim, arith, length-append}
use Rattle.std.specs.List.{slice_get}
use Rattle.std.proofs.lemmas.Bool.{cases_lt}
use Rattle.std.proofs.Math.Nat.{mod-eq_of_lt, mod-eq-sub-mod, suc-mul}
use Rattle.sw_trigger.specs.Agenda.{repeated}

pub length-repeated : {A : Type 0} (n : ℕ) (xs : List A) → length (repeated n xs) ≡ n * length xs
length-repeated zero xs = omega arith
length-repeated (suc n) xs = omega (arith, length-append xs (repeated n xs), length-repeated n xs, suc-mul n (length xs))

pub get-append_left : {A : Type 0} (xs ys : List A) (i : ℕ) → i < length xs → slice_get (xs ++ ys) i ≡ slice_get xs i
get-append_left [] ys i h = absurd (omega arith)
get-append_left (x ∷ xs) ys zero h = refl
get-append_left (x ∷ xs) ys (suc i) h = get-append_left xs ys i (omega arith)

pub get-append_right : {A : Type 0} (xs ys : List A) (i j : ℕ) → i ≡ length xs + j → slice_get (xs ++ ys) i ≡ slice_get ys j
get-append_right [] ys i j h = let e : i ≡ j = omega arith in ap (slice_get ys) e
get-append_right (x ∷ xs) ys zero j h = absurd (omega arith)
get-append_right (x ∷ xs) ys (suc i) j h = get-append_right xs ys i j (omega arith)

pub get-repeated : {A : Type 0} (n : ℕ) (xs : List A) (i : ℕ) → i < n * length xs → slice_get (repeated n xs) i ≡ slice_get xs (i % length xs)
get-repeated zero xs i h = absurd (omega arith)
get-repeated (suc n) xs i h =
    ⊎_elim (λ (w : i < length xs). get-append_left xs (repeated n xs) i w ∙ ap (slice_get xs) (sym (mod-eq_of_lt w)))
    (λ (w : length xs ≤ i).
    let j = i - length xs in
    get-append_right xs (repeated n xs) i j (omega arith)
    ∙ get-repeated n xs j (omega (arith, suc-mul n (length xs)))
    ∙ ap (slice_get xs) (sym (mod-eq-sub-mod w)))
    (cases_lt i (length xs))
