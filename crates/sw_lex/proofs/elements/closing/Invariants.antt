use Rattle.std.proofs.Common.{◌≡◌, ℕ, List, ◌++◌, length}
use Rattle.sw_lex.specs.Elements.{doubled}
use Rattle.sw_lex.proofs.elements.closing.Given as goal

abbrev pub invariant-marks : goal.invariant-marks
invariant-marks l = (front : List ℕ) × (l.text ≡ doubled l.mark front ++ l.rest)

abbrev pub decreases-marks : goal.decreases-marks
decreases-marks l = length l.rest
