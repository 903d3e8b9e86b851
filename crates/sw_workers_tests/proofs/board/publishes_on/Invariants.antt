use Rattle.std.proofs.Common.{◌≡◌, ℕ, Some}
use Rattle.sw_workers_tests.proofs.board.publishes_on.Given as goal

abbrev pub invariant-loop-i : goal.invariant-loop-i
invariant-loop-i g l = (d : ℕ) × (l.desk.desk ≡ Some d)
