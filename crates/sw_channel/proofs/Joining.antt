-- A position with one more channel.
use Rattle.std.proofs.Common.{◌≡◌, ℕ, suc, ◌+◌, ◌-◌, ◌<◌, ◌≤◌, ◌==◌, Bool, true, false, ◌||◌, List, [], ◌∷◌, ◌++◌, length, take, replicate, slice_set}
use Rattle.std.proofs.Common.{refl, sym, ap, ◌∙◌, subst, arith, length-append, append_assoc}
use Rattle.std.proofs.lemmas.Grind.{common_steps}
use Rattle.sw_base.specs.Layout.{Channel}
use Rattle.sw_channel.specs.Positions.{same_channel, is_among, AreDifferent, IsPosition, most_joined}
use Rattle.sw_channel.specs.PositionSeen.{position_of, first_of, filled, HoldsPosition}
use Rattle.sw_channel.specs.declared.position.Position.TheInside.{Inside}

set_end : {A : Type 0} (p : List A) (x y : A) (r : List A) → slice_set (p ++ x ∷ r) (length p) y ≡ p ++ y ∷ r
set_end [] x y r = refl
set_end (z ∷ p) x y r = ap (λ l. z ∷ l) (set_end p x y r)

take_end : {A : Type 0} (p : List A) (y : A) (r : List A) → take (suc (length p)) (p ++ y ∷ r) ≡ p ++ y ∷ []
take_end [] y r = refl
take_end (z ∷ p) y r = ap (λ l. z ∷ l) (take_end p y r)

swap_eq : (m n : ℕ) → (m == n) ≡ (n == m)
swap_eq m n = grind (arith, common_steps)

pub same_swap : (a b : Channel) → same_channel a b ≡ same_channel b a
same_swap a b = let p = swap_eq a.0 b.0 in let q = swap_eq a.1 b.1 in cc

pub both_false : (a b : Bool) → (a || b) ≡ false → (a ≡ false) × (b ≡ false)
both_false true b h = absurd (cc h)
both_false false b h = (refl, h)

pub neither : (a b : Bool) → a ≡ false → b ≡ false → (a || b) ≡ false
neither true b h g = absurd (cc h)
neither false b h g = g

is_among_more : (p : List Channel) (c x : Channel) → is_among p x ≡ false → same_channel x c ≡ false → is_among (p ++ c ∷ []) x ≡ false
is_among_more [] c x h g = neither (same_channel x c) false g refl
is_among_more (y ∷ p) c x h g =
    let w = both_false (same_channel x y) (is_among p x) h in
    neither (same_channel x y) (is_among (p ++ c ∷ []) x) w.0 (is_among_more p c x w.1 g)

pub different_more : (p : List Channel) (c : Channel) → AreDifferent p → is_among p c ≡ false → AreDifferent (p ++ c ∷ [])
different_more [] c d h = (refl, tt)
different_more (y ∷ p) c d h =
    let w = both_false (same_channel c y) (is_among p c) h in
    (is_among_more p c y d.0 (same_swap y c ∙ w.0), different_more p c d.1 w.1)

-- a channel that comes after those is none of them
pub different_apart : (p : List Channel) (c : Channel) (q : List Channel) → AreDifferent (p ++ c ∷ q) → is_among p c ≡ false
different_apart [] c q d = refl
different_apart (x ∷ p) c q d = neither (same_channel c x) (is_among p c) (same_swap c x ∙ first_not p (d.0)) (different_apart p c q d.1) where
  first_not : (p : List Channel) → is_among (p ++ c ∷ q) x ≡ false → same_channel x c ≡ false
  first_not [] h = (both_false (same_channel x c) (is_among q x) h).0
  first_not (y ∷ p) h = first_not p (both_false (same_channel x y) (is_among (p ++ c ∷ q) x) h).1

first_more : (p : List Channel) (c : Channel) → 1 ≤ length p → first_of (p ++ c ∷ []) ≡ first_of p
first_more [] c h = absurd (omega arith)
first_more (x ∷ p) c h = refl

abbrev inside : List Channel → ℕ → Inside
inside chans len = record { chans = chans; len = len }

end_holds : (p : List Channel) (c : Channel) (k : ℕ) → IsPosition p → length p + suc k ≡ most_joined → is_among p c ≡ false
    → HoldsPosition (inside (p ++ c ∷ replicate k (first_of p)) (suc (length p)))
end_holds p c k i e h =
    let t = take_end p c (replicate k (first_of p)) in
    let n : length (p ++ c ∷ []) ≡ suc (length p) = omega (arith, length-append p (c ∷ [])) in
    let left : most_joined - length (p ++ c ∷ []) ≡ k = omega (arith, n, e) in
    let position : IsPosition (p ++ c ∷ []) = record {
      some = omega (arith, n);
      few = omega (arith, n, e);
      different = different_more p c i.different h;
    } in
    record {
      position = subst IsPosition (sym t) position;
      len = ap length t ∙ n;
      rest = ap filled t ∙ ap (λ (m : ℕ). (p ++ c ∷ []) ++ replicate m (first_of (p ++ c ∷ []))) left
          ∙ ap (λ (f : Channel). (p ++ c ∷ []) ++ replicate k f) (first_more p c i.some)
          ∙ append_assoc p (c ∷ []) (replicate k (first_of p));
    }

pub joined_holds : (a : Inside) (c : Channel) → HoldsPosition a → is_among (position_of a) c ≡ false → a.len < most_joined
    → HoldsPosition (record { chans = slice_set a.chans a.len c; len = a.len + 1 })
joined_holds a c h free few =
    let p = position_of a in
    let l : length p ≡ a.len = h.len in
    let left = most_joined - 1 - length p in
    let e : length p + suc left ≡ most_joined = omega arith in
    let m : most_joined - length p ≡ suc left = omega arith in
    let is : slice_set a.chans a.len c ≡ p ++ c ∷ replicate left (first_of p) =
    ap (λ (x : List Channel). slice_set x a.len c) (sym h.rest ∙ ap (λ (x : ℕ). p ++ replicate x (first_of p)) m)
    ∙ ap (λ (x : ℕ). slice_set (p ++ replicate (suc left) (first_of p)) x c) (sym l)
    ∙ set_end p (first_of p) c (replicate left (first_of p)) in
    let n : suc (length p) ≡ a.len + 1 = omega arith in
    subst (λ (x : List Channel). HoldsPosition (inside x (a.len + 1))) (sym is)
    (subst (λ (x : ℕ). HoldsPosition (inside (p ++ c ∷ replicate left (first_of p)) x)) n (end_holds p c left h.position e free))
