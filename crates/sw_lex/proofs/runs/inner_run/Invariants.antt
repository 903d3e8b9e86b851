use Rattle.std.proofs.Common.{length, ◌-◌, ◌≤◌, take}
use Rattle.sw_base.specs.Text.{AllPass}
use Rattle.sw_lex.specs.Elements.{is_inner}
use Rattle.sw_lex.proofs.runs.inner_run.Given as goal

abbrev pub invariant-loop-n : goal.invariant-loop-n
invariant-loop-n l = record { in_range : l.n ≤ length l.bytes; pass : AllPass is_inner (take l.n l.bytes) }

abbrev pub decreases-loop-n : goal.decreases-loop-n
decreases-loop-n l = length l.bytes - l.n
