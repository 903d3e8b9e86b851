-- What stands between the parentheses of an expression, found by its end.
use Rattle.std.proofs.Common.{◌≡◌, ℕ, ◌<◌, ◌≤◌, zero, suc, true, false, List, [], ◌∷◌, length, refl, arith, get_or, take, drop, drop-cons, inl, inr}
use Rattle.std.specs.Prelude.{nat_lt, ◌==◌}
use Rattle.std.proofs.lemmas.Bool.{cases_Bool, lt-ltb}
use Rattle.memchr.specs.Find.{is_byte2}
use Rattle.sw_base.specs.Text.{AllPass, StartsOff}
use Rattle.sw_lex.specs.Elements.{is_inner}

-- bytes of which none is above a number below 127
pub low_all : (bytes : List ℕ) (most : ℕ) → ((k : ℕ) → k < length bytes → get_or bytes k 0 ≤ most) → most < 127 → AllPass (λ b. nat_lt b 127) bytes
low_all [] most h m = tt
low_all (b ∷ bytes) most h m =
    let here : b ≤ most = h 0 (omega arith) in
    (lt-ltb b 127 (omega (arith, here, m)), low_all bytes most (λ k l. h (suc k) (omega (arith, l))) m)

inner_byte : (b : ℕ) → (is_byte2 41 10 b ≡ true → ⊥) → nat_lt b 127 ≡ true → is_inner b ≡ true
inner_byte b h l =
    elim (cases_Bool (b == 41)) [
      | inl e ↦ absurd (h (rw e refl))
      | inr e ↦ elim (cases_Bool (b == 10)) [ inl f ↦ absurd (h (rw (e, f) refl)) | inr f ↦ rw (e, f, l) refl ]
    ]

-- the bytes before the first of both marks, where none is above 126
pub inner_front : (bytes : List ℕ) (n : ℕ) → n ≤ length bytes → ((k : ℕ) → k < n → is_byte2 41 10 (get_or bytes k 0) ≡ true → ⊥)
    → AllPass (λ b. nat_lt b 127) (take n bytes) → AllPass is_inner (take n bytes)
inner_front bytes zero n h a = tt
inner_front [] (suc n) l h a = tt
inner_front (b ∷ bytes) (suc n) l h a =
    (inner_byte b (h 0 (omega arith)) a.0, inner_front bytes n (omega (arith, l)) (λ k m. h (suc k) (omega (arith, m))) a.1)

mark_off : (b : ℕ) → is_byte2 41 10 b ≡ true → is_inner b ≡ false
mark_off b h =
    elim (cases_Bool (b == 41)) [
      | inl e ↦ rw e refl
      | inr e ↦ elim (cases_Bool (b == 10)) [ inl f ↦ rw (e, f) refl | inr f ↦ absurd (let z : false ≡ true = (rw (e, f) at h) in cc) ]
    ]

pub inner_off : (bytes : List ℕ) (n : ℕ) → n < length bytes → is_byte2 41 10 (get_or bytes n 0) ≡ true → StartsOff is_inner (drop n bytes)
inner_off bytes n l h = rw (drop-cons bytes n 0 l) (mark_off (get_or bytes n 0) h)
