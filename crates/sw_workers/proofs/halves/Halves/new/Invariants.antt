use Rattle.std.proofs.Common.{◌≡◌, None, replicate}
use Rattle.sw_workers.proofs.halves.Halves.new.Given as goal

abbrev pub invariant-loop : goal.invariant-loop
invariant-loop g l = l.rows.items ≡ replicate l.counter None
