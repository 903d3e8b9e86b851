use Rattle.std.proofs.Common.{◌≡◌, ◌≤◌}
use Rattle.sw_hislip.specs.LockTable.{holders}
use Rattle.sw_hislip.proofs.locks.Locks.info.Given as goal

abbrev pub invariant-loop-before : goal.invariant-loop-before
invariant-loop-before l = record { counted : l.count ≡ holders l.self l.before; most : l.count ≤ l.before }
