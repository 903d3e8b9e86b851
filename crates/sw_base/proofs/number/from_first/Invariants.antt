use Rattle.std.proofs.Common.{◌≡◌, ◌-◌, ◌≤◌, length, drop}
use Rattle.sw_base.specs.Number.{from_first}
use Rattle.sw_base.proofs.number.from_first.Given as goal

abbrev pub invariant-loop-n : goal.invariant-loop-n
invariant-loop-n l = record { in_range : l.n ≤ length l.digits; same : from_first (drop l.n l.digits) ≡ from_first l.digits }

abbrev pub decreases-loop-n : goal.decreases-loop-n
decreases-loop-n l = length l.digits - l.n
