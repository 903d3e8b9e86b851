use Rattle.std.specs.Prelude.{◌≡◌, drop}
use Rattle.sw_core.specs.Checking.{joined_with}
use Rattle.sw_core.proofs.checking.joined_with.Given as goal

abbrev pub invariant-loop-other : goal.invariant-loop-other
invariant-loop-other l = joined_with l.layout l.chan (drop l.other-index l.others) ≡ joined_with l.layout l.chan l.others
