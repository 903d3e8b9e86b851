use Rattle.std.proofs.Common.{ℕ, length}
use Rattle.std.specs.Prelude.{◌↔◌}
use Rattle.sw_lex.specs.Packed.{FitNumbers}
use Rattle.sw_lex.proofs.headers.behind_musts.Given as goal

abbrev pub invariant-nodes : goal.invariant-nodes
invariant-nodes l = (k : ℕ) → FitNumbers l.fn.nodes l.fn.words k ↔ FitNumbers l.nodes l.words k

abbrev pub decreases-nodes : goal.decreases-nodes
decreases-nodes l = length l.nodes
