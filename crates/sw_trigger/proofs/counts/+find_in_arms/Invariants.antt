use Rattle.std.proofs.Common.{length}
use Rattle.sw_trigger.proofs.counts.+find_in_arms.Given as goal

abbrev pub decreases-find_in_arms : goal.decreases-find_in_arms
decreases-find_in_arms l = length l.arms.now
