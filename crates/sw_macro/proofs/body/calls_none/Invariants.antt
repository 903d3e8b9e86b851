use Rattle.std.proofs.Common.{List, ℕ, length}
use Rattle.sw_macro.specs.Table.{Macro}
use Rattle.sw_macro.proofs.ExpansionsLemmas.{Unwritten}
use Rattle.sw_macro.proofs.body.calls_none.Given as goal

abbrev pub invariant-units : goal.invariant-units
invariant-units l = (ms : List Macro) (names : List (List ℕ)) (first : List ℕ) → Unwritten ms names l.text first l.text l.rest first

abbrev pub decreases-units : goal.decreases-units
decreases-units l = length l.rest
