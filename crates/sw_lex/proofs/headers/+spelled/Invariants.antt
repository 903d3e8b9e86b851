use Rattle.std.proofs.Common.{length}
use Rattle.sw_lex.proofs.headers.+spelled.Given as goal

abbrev pub decreases-spelled : goal.decreases-spelled
decreases-spelled l = length l.nodes.now
