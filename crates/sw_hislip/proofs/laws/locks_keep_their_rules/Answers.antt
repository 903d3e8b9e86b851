use Rattle.sw_hislip.proofs.LockProofs.{are_rules}
use Rattle.sw_hislip.proofs.laws.locks_keep_their_rules.Goals as goal

pub returns : goal.returns
returns c = are_rules
