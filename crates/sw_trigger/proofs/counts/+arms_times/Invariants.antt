use Rattle.std.proofs.Common.{length}
use Rattle.sw_trigger.proofs.counts.+arms_times.Given as goal

abbrev pub decreases-arms_times : goal.decreases-arms_times
decreases-arms_times l = length l.arms.now
