use Rattle.std.proofs.Common.{ap}
use Rattle.sw_cage.specs.Accounts.{accounts_of}
use Rattle.sw_cage.proofs.KeptLemmas.{kept_new}
use Rattle.sw_cage.proofs.cage.Cage.with_number.Goals as goal

pub invariant_of-result : goal.invariant_of-result
invariant_of-result g c = kept_new _ _ _ _ _ (ap accounts_of c.in_ok-new.ensures) c.new-2.ensures
