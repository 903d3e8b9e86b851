-- Slots in their order.
use Rattle.std.specs.Prelude.{ℕ, ◌+◌, ◌≤◌, List, [], ◌∷◌}
use Rattle.std.specs.List.{AllByRecursion, AllByRecursion-prop}
use Rattle.std.specs.Coded.{×_prop, Unit-prop, le_prop}

-- each slot is below those after it: so each is there once
abbrev pub AreAscending : List ℕ → Type 0
AreAscending [] = Unit {0}
AreAscending (slot ∷ slots) = AllByRecursion (λ other. slot + 1 ≤ other) slots × AreAscending slots

pub AreAscending-prop : (slots : List ℕ) → IsProp (AreAscending slots)
AreAscending-prop [] = Unit-prop
AreAscending-prop (slot ∷ slots) =
    ×_prop (AllByRecursion-prop (λ other. slot + 1 ≤ other) (λ other. le_prop) slots) (AreAscending-prop slots)
