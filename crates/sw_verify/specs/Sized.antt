-- How many items a code does, by its loops.
use Rattle.std.specs.Prelude.{◌≡◌, ℕ, zero, suc, ◌+◌, ◌*◌, ◌<◌, List, [], ◌∷◌}
use Rattle.sw_code.specs.declared.code.Step.{Step}
use Rattle.sw_code.specs.declared.code.Step.TheVariants as step
use Rattle.sw_verify.specs.declared.size.Opened.{Opened}

-- the innermost open loop ends, after its body did this many items; the function continues with those of all its turns
abbrev pub size_at_end : List Opened → ℕ → (ℕ → List Opened → ℕ) → ℕ
size_at_end [] here go = 0
size_at_end (o ∷ os) here go = go (o.before + o.count * here) os

-- how many items there are up to halt, where the innermost open loop did this many so far
abbrev pub size_from : List Step → ℕ → List Opened → ℕ
size_from [] here os = 0
size_from (step.Set k n ∷ steps) here os = size_from steps 0 (record { count = n; before = here } ∷ os)
size_from (step.Wait name ∷ steps) here os = size_from steps (here + 1) os
size_from (step.Timer name micros ∷ steps) here os = size_from steps (here + 1) os
size_from (step.Pause micros ∷ steps) here os = size_from steps (here + 1) os
size_from (step.Close p ∷ steps) here os = size_from steps (here + 1) os
size_from (step.Read ∷ steps) here os = size_from steps (here + 1) os
size_from (step.Open p ∷ steps) here os = size_from steps (here + 1) os
size_from (step.Loop k to ∷ steps) here os = size_at_end os here (size_from steps)
size_from (step.Halt ∷ steps) here os = here

-- ---- why there are too many

-- the items before all the open loops, added up
abbrev pub before_all : List Opened → ℕ
before_all [] = 0
before_all (o ∷ os) = o.before + before_all os

-- each open loop is done
abbrev pub AreDone : List Opened → Type 0
AreDone [] = Unit {0}
AreDone (o ∷ os) = (0 < o.count) × AreDone os

abbrev pub one_less : ℕ → (ℕ → Type 0) → Type 0
one_less zero go = ⊥
one_less (suc depth) go = go depth

-- each loop is done, and the steps end as many loops as are open, and no more
abbrev pub Closes : List Step → ℕ → Type 0
Closes [] depth = ⊥
Closes (step.Set k n ∷ steps) depth = (0 < n) × Closes steps (suc depth)
Closes (step.Wait name ∷ steps) depth = Closes steps depth
Closes (step.Timer name micros ∷ steps) depth = Closes steps depth
Closes (step.Pause micros ∷ steps) depth = Closes steps depth
Closes (step.Close p ∷ steps) depth = Closes steps depth
Closes (step.Read ∷ steps) depth = Closes steps depth
Closes (step.Open p ∷ steps) depth = Closes steps depth
Closes (step.Loop k to ∷ steps) depth = one_less depth (Closes steps)
Closes (step.Halt ∷ steps) depth = depth ≡ 0
