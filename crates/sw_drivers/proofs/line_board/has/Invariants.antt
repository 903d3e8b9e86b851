use Rattle.std.proofs.Common.{◌≡◌, ◌<◌, ◌++◌, ℕ, List, drop}
use Rattle.sw_drivers.proofs.line_board.has.Given as goal

abbrev pub invariant-loop-from : goal.invariant-loop-from
invariant-loop-from l = (k : ℕ) → k < l.from → (behind : List ℕ) → drop k l.text ≡ l.wanted ++ behind → ⊥
