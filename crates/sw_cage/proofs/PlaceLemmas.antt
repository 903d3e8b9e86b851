-- Places among the items of a course.
use Rattle.std.proofs.Common.{◌≡◌, ℕ, zero, suc, ◌+◌, ◌<◌, List, [], ◌∷◌, length, drop, Some, None, refl, ap, ◌∙◌, subst, arith}
use Rattle.sw_base.specs.declared.terms.Source.{Source}
use Rattle.sw_trigger.specs.Agenda.{Item}
use Rattle.sw_verify.specs.Course.{CourseSeen}
use Rattle.sw_cage.specs.declared.scan.steps.Move.{Move}
use Rattle.sw_cage.specs.Advance.{first_awaited}
use Rattle.sw_cage.specs.Steps.{next_move}

-- the item there, and those behind it
item_suc : (l : List Item) (i : ℕ) → i < length l → (x : Item) × (drop i l ≡ x ∷ drop (suc i) l)
item_suc [] i h = absurd (omega arith)
item_suc (x ∷ l) zero h = (x, refl)
item_suc (x ∷ l) (suc i) h = item_suc l i (omega arith)

pub item_there : (l : List Item) (i : ℕ) → i < length l → (x : Item) × (drop i l ≡ x ∷ drop (i + 1) l)
item_there l i h =
    let n : suc i ≡ i + 1 = omega arith in
    let r = item_suc l i h in
    (r.0, subst (λ (k : ℕ). drop i l ≡ r.0 ∷ drop k l) n r.1)

-- something is awaited, or moved, so there is an item
pub awaited_within : (l : List Item) (i : ℕ) → (first_awaited (drop i l) ≡ None → ⊥) → i < length l
awaited_within [] zero h = absurd (h refl)
awaited_within [] (suc i) h = absurd (h refl)
awaited_within (x ∷ l) zero h = omega arith
awaited_within (x ∷ l) (suc i) h = let r = awaited_within l i h in omega arith

pub moved_within : (l : List Item) (i : ℕ) (m : Move) → next_move (drop i l) ≡ Some m → i < length l
moved_within [] zero m h = absurd (cc h)
moved_within [] (suc i) m h = absurd (cc h)
moved_within (x ∷ l) zero m h = omega arith
moved_within (x ∷ l) (suc i) m h = let r = moved_within l i m h in omega arith

-- a course of the same parts
pub same_course : (c : CourseSeen) (items : List Item) (meter : ℕ) (sources : List Source) (points : ℕ) → items ≡ c.items → meter ≡ c.meter
    → sources ≡ c.sources → points ≡ c.points
    → (let d : CourseSeen = record { items = items; meter = meter; sources = sources; points = points } in d) ≡ c
same_course c items meter sources points e f g h =
    ap (λ (l : List Item). let d : CourseSeen = record { items = l; meter = meter; sources = sources; points = points } in d) e
    ∙ ap (λ (m : ℕ). let d : CourseSeen = record { items = c.items; meter = m; sources = sources; points = points } in d) f
    ∙ ap (λ (l : List Source). let d : CourseSeen = record { items = c.items; meter = c.meter; sources = l; points = points } in d) g
    ∙ ap (λ (n : ℕ). let d : CourseSeen = record { items = c.items; meter = c.meter; sources = c.sources; points = n } in d) h
