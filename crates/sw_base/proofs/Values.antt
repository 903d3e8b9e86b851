-- What runs of digits write.
use Rattle.std.proofs.Common.{◌≡◌, ℕ, ◌+◌, ◌-◌, ◌*◌, ◌^◌, ◌<◌, ◌≤◌, List, [], ◌∷◌, ◌++◌, length, get_or, drop, refl, sym, ap, ◌∙◌, arith, add-one}
use Rattle.std.proofs.lemmas.List.{at_drop_more}
use Rattle.std.proofs.lemmas.Grind.{common_steps}
use Rattle.std.proofs.Math.Nat.{pow-suc, mul_assoc, mul-le-mul_left, pow-le-pow_right}
use mir.Val.{bool_byte}
use Rattle.std.specs.Prelude.{Bool, true, false, nat_le, if◌then◌else◌, Option, Some, None, SomeIff, IfSome, IfNone}
use Rattle.sw_base.specs.Number.{value_after, value_of}

pub not_below : (a b : ℕ) → (a < b → ⊥) → b ≤ a
not_below a b h = omega arith

-- more digits never make it less
pub value_after-ge : (n : ℕ) (digits : List ℕ) → n ≤ value_after n digits
value_after-ge n [] = omega arith
value_after-ge n (b ∷ digits) = let more : n * 10 + (b - 48) ≤ value_after (n * 10 + (b - 48)) digits = value_after-ge (n * 10 + (b - 48)) digits in omega arith

pub value_at : (n i : ℕ) (digits : List ℕ) → i < length digits
    → value_after n (drop i digits) ≡ value_after (n * 10 + (get_or digits i 0 - 48)) (drop (i + 1) digits)
value_at n i digits within = at_drop_more (value_after n) digits i 0 within

pub value_at_le : (n i : ℕ) (digits : List ℕ) → i < length digits → n * 10 + (get_or digits i 0 - 48) ≤ value_after n (drop i digits)
value_at_le n i digits within = omega (arith, value_at n i digits within, value_after-ge (n * 10 + (get_or digits i 0 - 48)) (drop (i + 1) digits))

pub value_after-append : (n : ℕ) (front back : List ℕ) → value_after n (front ++ back) ≡ value_after (value_after n front) back
value_after-append n [] back = refl
value_after-append n (b ∷ front) back = value_after-append (n * 10 + (b - 48)) front back

pub tenfold : (n k : ℕ) → n * 10 ^ k * 10 ≡ n * 10 ^ (k + 1)
tenfold n k = mul_assoc n (10 ^ k) 10 ∙ ap (λ m. n * m) (sym (pow-suc 10 k)) ∙ ap (λ m. n * 10 ^ m) (sym (add-one k))

pub more_zeros : (n i j : ℕ) → i ≤ j → n * 10 ^ i ≤ n * 10 ^ j
more_zeros n i j more = let ten : 0 < 10 = omega arith in mul-le-mul_left n (pow-le-pow_right ten more)

-- one more for a digit from 5 on
abbrev pub carry : ℕ → ℕ
carry next = if nat_le 53 next then 1 else 0

pub carry_up : (next : ℕ) → 53 ≤ next → carry next ≡ 1
carry_up next up = grind (arith, common_steps)

pub carry_down : (next : ℕ) → next < 53 → carry next ≡ 0
carry_down next down = grind (arith, common_steps)

pub two_runs : (a b : ℕ) (first second : List ℕ) → a ≡ value_of first → b ≡ value_after a second → b ≡ value_of (first ++ second)
two_runs a b first second p q = q ∙ ap (λ n. value_after n second) p ∙ sym (value_after-append 0 first second)

pub some_from : (r : Option ℕ) (P : Type 0) (v w : ℕ) → SomeIff r P v → v ≡ w → IfSome r (λ n. n ≡ w)
some_from None P v w s e = tt
some_from (Some x) P v w s e = s.1 ∙ e

pub none_from : (r : Option ℕ) (v w m : ℕ) → SomeIff r (v < m) v → v ≡ w → IfNone r (m ≤ w)
none_from None v w m s e = omega arith
none_from (Some x) v w m s e = tt

pub one_more : (b : Bool) → bool_byte b ≡ (if b then 1 else 0)
one_more true = refl
one_more false = refl
