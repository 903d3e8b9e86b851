use Rattle.std.proofs.Common.{◌≡◌, ℕ, ◌<◌, Some}
use Rattle.std.specs.List.{slice_get}
use Rattle.sw_code.specs.declared.code.Step.{Step}
use Rattle.sw_code.specs.Pace.{most_counting, IsNearAfter}
use Rattle.sw_verify.proofs.pace.is_paced.Given as goal

abbrev pub invariant-loop-i : goal.invariant-loop-i
invariant-loop-i l = (j : ℕ) (i : Step) → j < l.i → slice_get l.steps j ≡ Some i → IsNearAfter l.steps most_counting j i
