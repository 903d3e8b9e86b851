use Rattle.std.proofs.Common.{length}
use Rattle.sw_trigger.proofs.counts.+arms_len.Given as goal

abbrev pub decreases-arms_len : goal.decreases-arms_len
decreases-arms_len l = length l.arms.now
