use Rattle.sw_status.proofs.Queue.{lost_only_to_overflow}
use Rattle.sw_status.proofs.laws.error_is_lost_only_to_overflow.Goals as goal

pub returns : goal.returns
returns c = lost_only_to_overflow
