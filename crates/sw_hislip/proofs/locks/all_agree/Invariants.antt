use Rattle.std.proofs.Common.{◌≡◌, drop}
use Rattle.std.specs.List.{list_all}
use Rattle.sw_hislip.specs.LockTable.{agrees}
use Rattle.sw_hislip.proofs.locks.all_agree.Given as goal

abbrev pub invariant-loop-held : goal.invariant-loop-held
invariant-loop-held l = list_all (agrees l.key) l.keys ≡ list_all (agrees l.key) (drop l.held-index l.keys)
