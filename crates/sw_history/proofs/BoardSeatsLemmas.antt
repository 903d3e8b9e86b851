-- What the rule says of all seats, after the views of some change.
use Rattle.std.proofs.Common.{◌≡◌, ◌≢◌, ◌⊎◌, ℕ, zero, suc, false, true, true≢false, List, [], ◌∷◌, ◌++◌, length, set, Option, None, Some}
use Rattle.std.proofs.Common.{refl, ap, sym, subst, ⊎_elim, inl, inr, arith}
use mathlib.Core.Option as found
use mathlib.Core.Option.{some-injective, some-ne-none}
use lib.ListN.{get_elem?}
use Rattle.atomic_table.proofs.Lists.{at_set}
use Rattle.sw_history.specs.Board.{World, Known, KnowsTruly, spent}

-- the seat j has the view u
abbrev pub Has : List Known → ℕ → Known → Type 0
Has views j u = get_elem? views j ≡ found.some u

abbrev pub All : World → ℕ × ℕ → List Known → Type 0
All x p views = (j : ℕ) (u : Known) → Has views j u → KnowsTruly x p j u

-- all but one, or two
abbrev pub AllBut : World → ℕ × ℕ → List Known → ℕ → Type 0
AllBut x p views id = (j : ℕ) (u : Known) → j ≢ id → Has views j u → KnowsTruly x p j u

abbrev pub AllButBoth : World → ℕ × ℕ → List Known → ℕ → ℕ → Type 0
AllButBoth x p views id other = (j : ℕ) (u : Known) → j ≢ id → j ≢ other → Has views j u → KnowsTruly x p j u

pub off : false ≡ true → ⊥
off e = true≢false (sym e)

pub none_is : (o : Option ℕ) (d : ℕ) → o ≡ None → o ≡ Some d → ⊥
none_is o d n e = cc

pub same_some : (c d : ℕ) → Some c ≡ Some d → c ≡ d
same_some c d e = cc

moved : (x : World) (p : ℕ × ℕ) (i j : ℕ) (v u : Known) → j ≡ i → v ≡ u → KnowsTruly x p i v → KnowsTruly x p j u
moved x p i j v u at is fits = subst (λ (y : ℕ × Known). KnowsTruly x p y.0 y.1) (λ k. (sym at k, is k)) fits

-- one view changes
pub fits_set : (x : World) (p : ℕ × ℕ) (views : List Known) (id : ℕ) (w : Known) → AllBut x p views id → KnowsTruly x p id w → All x p (set views id w)
fits_set x p views id w others mine j u e =
    ⊎_elim (λ (t : (j ≡ id) × (w ≡ u)). moved x p id j w u t.0 t.1 mine) (λ (t : (j ≢ id) × Has views j u). others j u t.0 t.1) (at_set views id j w u e)

-- one more view
at_end : (l : List Known) (a b : Known) (j : ℕ) → Has (l ++ a ∷ []) j b → ((j ≢ length l) × Has l j b) ⊎ ((j ≡ length l) × (a ≡ b))
at_end [] a b zero e = inr (refl, some-injective a b e)
at_end [] a b (suc j) e = absurd (some-ne-none b (sym e))
at_end (x ∷ xs) a b zero e = inl ((λ h. omega arith), e)
at_end (x ∷ xs) a b (suc j) e =
    ⊎_elim
    (λ (t : (j ≢ length xs) × Has xs j b). let n = t.0 in inl ((λ h. n (omega arith)), t.1))
    (λ (t : (j ≡ length xs) × (a ≡ b)). inr (ap suc t.0, t.1))
    (at_end xs a b j e)

fits_more : (x : World) (p : ℕ × ℕ) (views : List Known) (w : Known) → AllBut x p views (length views) → KnowsTruly x p (length views) w
    → All x p (views ++ w ∷ [])
fits_more x p views w others mine j u e =
    ⊎_elim
    (λ (t : (j ≢ length views) × Has views j u). others j u t.0 t.1)
    (λ (t : (j ≡ length views) × (w ≡ u)). moved x p (length views) j w u t.0 t.1 mine)
    (at_end views w u j e)

-- a seat is split
pub fits_split : (x : World) (p : ℕ × ℕ) (views : List Known) (id : ℕ) (left right : Known) → AllBut x p views id → KnowsTruly x p id left
    → KnowsTruly x p (length (set views id left)) right → All x p (set views id left ++ right ∷ [])
fits_split x p views id left right others l r =
    fits_more x p (set views id left) right (λ j u ne e. fits_set x p views id left others l j u e) r

fits_spent : (x : World) (p : ℕ × ℕ) (j : ℕ) → KnowsTruly x p j spent
fits_spent x p j = record { seen = λ l. absurd (off l); publishes = λ l. absurd (off l); desk = λ d e. absurd (none_is _ d refl e) }

-- a seat is joined to another
pub fits_join : (x : World) (p : ℕ × ℕ) (views : List Known) (id other : ℕ) (both : Known) → AllButBoth x p views id other → KnowsTruly x p id both
    → All x p (set (set views id both) other spent)
fits_join x p views id other both others mine =
    fits_set x p (set views id both) other spent
    (λ j u ne e. ⊎_elim
    (λ (t : (j ≡ id) × (both ≡ u)). moved x p id j both u t.0 t.1 mine)
    (λ (t : (j ≢ id) × Has views j u). others j u t.0 ne t.1)
    (at_set views id j both u e))
    (fits_spent x p other)

-- the other's view is its own before it is joined
pub there_too : (views : List Known) (id other : ℕ) (both w : Known) → ¬ (other ≡ id) → Has (set views id both) other w → Has views other w
there_too views id other both w apart e =
    ⊎_elim (λ (t : (other ≡ id) × (both ≡ w)). absurd (apart t.0)) (λ (t : (other ≢ id) × Has views other w). t.1) (at_set views id other both w e)
