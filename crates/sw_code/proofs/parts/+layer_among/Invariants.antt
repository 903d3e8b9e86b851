use Rattle.std.proofs.Common.{length}
use Rattle.sw_code.proofs.parts.+layer_among.Given as goal

abbrev pub decreases-layer_among : goal.decreases-layer_among
decreases-layer_among l = length l.arms.now
