use Rattle.std.proofs.Common.{length, ◌-◌, ◌≤◌, take}
use Rattle.sw_base.specs.Text.{AllPass}
use Rattle.sw_lex.specs.Elements.{is_run}
use Rattle.sw_lex.proofs.numerals.run_end.Given as goal

abbrev pub invariant-loop-n : goal.invariant-loop-n
invariant-loop-n l = record { in_range : l.n ≤ length l.bytes; pass : AllPass is_run (take l.n l.bytes) }

abbrev pub decreases-loop-n : goal.decreases-loop-n
decreases-loop-n l = length l.bytes - l.n
