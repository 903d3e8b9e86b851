use Rattle.sw_hislip.proofs.LockTurns.{first_orderly, step_orderly}
use Rattle.sw_hislip.proofs.laws.locks_stay_orderly.Goals as goal

pub returns : goal.returns
returns c = record { first = first_orderly; step = step_orderly }
