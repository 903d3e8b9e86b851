use Rattle.std.proofs.Common.{vec_len}
use Rattle.sw_serve.proofs.serving.join_ended.Given as goal

abbrev pub invariant-loop-left : goal.invariant-loop-left
invariant-loop-left g l = Unit {0}

abbrev pub decreases-loop-left : goal.decreases-loop-left
decreases-loop-left g l = vec_len l.threads.members
