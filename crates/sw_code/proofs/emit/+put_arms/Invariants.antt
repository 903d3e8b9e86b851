use Rattle.std.proofs.Common.{length}
use Rattle.sw_code.proofs.emit.+put_arms.Given as goal

abbrev pub decreases-put_arms : goal.decreases-put_arms
decreases-put_arms l = length l.arms.now
