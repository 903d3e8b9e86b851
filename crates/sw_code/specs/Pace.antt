-- How few steps of a code only count between two items.
use Rattle.std.specs.Prelude.{◌≡◌, ℕ, zero, suc, ◌+◌, ◌*◌, List, Option, Some, None}
use Rattle.std.specs.List.{slice_get}
use Rattle.sw_base.specs.Limits.{most_counters}
use Rattle.sw_code.specs.declared.code.Step.{Step}
use Rattle.sw_code.specs.declared.code.Step.TheVariants as step

-- as many steps as begin and end a loop on each counter
abbrev pub most_counting : ℕ
most_counting = 2 * most_counters

-- the step does more than count, or the steps are near that may come after it
abbrev pub IsNearBy : Option Step → (ℕ → Type 0) → ℕ → Type 0
IsNearBy None near pc = Unit {0}
IsNearBy (Some (step.Set k n)) near pc = near (pc + 1)
IsNearBy (Some (step.Wait name)) near pc = Unit {0}
IsNearBy (Some (step.Timer name micros)) near pc = Unit {0}
IsNearBy (Some (step.Pause micros)) near pc = Unit {0}
IsNearBy (Some (step.Close c)) near pc = Unit {0}
IsNearBy (Some step.Read) near pc = Unit {0}
IsNearBy (Some (step.Open c)) near pc = Unit {0}
IsNearBy (Some (step.Loop k to)) near pc = near (pc + 1) × near to
IsNearBy (Some step.Halt) near pc = Unit {0}

-- from the step at pc on at most n steps only count before one does more, whichever way the loops branch
abbrev pub IsNear : List Step → ℕ → ℕ → Type 0
IsNear code zero pc = IsNearBy (slice_get code pc) (λ p. ⊥) pc
IsNear code (suc n) pc = IsNearBy (slice_get code pc) (IsNear code n) pc

-- what comes after a step that does an item is near
abbrev pub IsNearAfter : List Step → ℕ → ℕ → Step → Type 0
IsNearAfter code n pc (step.Set k v) = Unit {0}
IsNearAfter code n pc (step.Wait name) = IsNear code n (pc + 1)
IsNearAfter code n pc (step.Timer name micros) = IsNear code n (pc + 1)
IsNearAfter code n pc (step.Pause micros) = IsNear code n (pc + 1)
IsNearAfter code n pc (step.Close c) = IsNear code n (pc + 1)
IsNearAfter code n pc step.Read = IsNear code n (pc + 1)
IsNearAfter code n pc (step.Open c) = IsNear code n (pc + 1)
IsNearAfter code n pc (step.Loop k to) = Unit {0}
IsNearAfter code n pc step.Halt = Unit {0}

-- before the first item, and between two, at most n steps only count
pub record IsPaced (code : List Step) (n : ℕ) : Type 0 where
  pub start : IsNear code n 0
  pub after : (pc : ℕ) (i : Step) → slice_get code pc ≡ Some i → IsNearAfter code n pc i
