-- The first line of a text, and the rest.
use Rattle.std.proofs.Common.{◌≡◌, ℕ, List, [], ◌∷◌, ap, arith}
use Rattle.std.proofs.lemmas.Bool.Decides.{nat_tests}
use Rattle.std.proofs.lemmas.Grind.{common_steps}
use Rattle.std.specs.Io.BufRead.{take_through, drop_through}
use Rattle.mainframe.specs.Lines.{lines_of, onto_line}

pub lines_of-through : (x : ℕ) (xs : List ℕ) → lines_of (x ∷ xs) ≡ take_through 10 (x ∷ xs) ∷ lines_of (drop_through 10 (x ∷ xs))
lines_of-through x [] = grind (arith, nat_tests, common_steps)
lines_of-through x (y ∷ ys) = grind (arith, nat_tests, common_steps, ap (onto_line x) (lines_of-through y ys))
