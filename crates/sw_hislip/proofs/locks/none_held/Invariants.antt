use Rattle.std.proofs.Common.{◌≡◌, drop, is_none}
use Rattle.std.specs.List.{list_all}
use Rattle.sw_hislip.proofs.locks.none_held.Given as goal

abbrev pub invariant-loop-held : goal.invariant-loop-held
invariant-loop-held l = list_all is_none l.keys ≡ list_all is_none (drop l.held-index l.keys)
