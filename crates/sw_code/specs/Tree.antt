-- Code with its loops seen as such.
use Rattle.std.specs.Prelude.{◌≡◌, ℕ, ◌+◌, ◌<◌, ◌==◌, Bool, false, ◌||◌, List, [], ◌∷◌, ◌++◌}
use Rattle.sw_trigger.specs.declared.layer.Awaited.TheVariants.{Wait, Period, Pause, Read}
use Rattle.sw_code.specs.declared.code.Step.{Step}
use Rattle.sw_code.specs.declared.code.Step.TheVariants as step
use Rattle.sw_trigger.specs.Agenda.{Item, Awaits, Close, Open, repeated}

-- nothing; an item and more; a loop on counter k, n times, and more
pub data Tree : Type 0 where
  Nil : Tree
  Then : (x : Item) (rest : Tree) → Tree
  Times : (k n : ℕ) (body rest : Tree) → Tree

abbrev pub step_of : Item → Step
step_of (Awaits (Wait name)) = step.Wait name
step_of (Awaits (Period name micros)) = step.Timer name micros
step_of (Awaits (Pause micros)) = step.Pause micros
step_of (Awaits Read) = step.Read
step_of (Close c) = step.Close c
step_of (Open c) = step.Open c

-- how many steps
abbrev pub size : Tree → ℕ
size Nil = 0
size (Then x rest) = 1 + size rest
size (Times k n body rest) = 2 + size body + size rest

-- its steps, the first of which has this number
abbrev pub flatten : Tree → ℕ → List Step
flatten Nil pc = []
flatten (Then x rest) pc = step_of x ∷ flatten rest (pc + 1)
flatten (Times k n body rest) pc = step.Set k n ∷ (flatten body (pc + 1)
    ++ (step.Loop k (pc + 1) ∷ flatten rest (pc + 2 + size body)))

abbrev pub meaning : Tree → List Item
meaning Nil = []
meaning (Then x rest) = x ∷ meaning rest
meaning (Times k n body rest) = repeated n (meaning body) ++ meaning rest

-- each loop is made at least once, and inside it no other sets its counter
abbrev pub IsNested : (ℕ → Bool) → Tree → Type 0
IsNested used Nil = Unit {0}
IsNested used (Then x rest) = IsNested used rest
IsNested used (Times k n body rest) = (0 < n) × (used k ≡ false) × IsNested (λ j. (j == k) || used j) body
    × IsNested used rest
