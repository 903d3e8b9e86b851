use Rattle.std.proofs.Common.{◌≡◌, ◌++◌, length}
use Rattle.sw_lex.specs.Elements.{doubled}
use Rattle.sw_lex.proofs.owned.undoubled.Given as goal

abbrev pub invariant-marks : goal.invariant-marks
invariant-marks l = l.text ≡ doubled l.mark l.bytes.items ++ l.rest

abbrev pub decreases-marks : goal.decreases-marks
decreases-marks l = length l.rest
