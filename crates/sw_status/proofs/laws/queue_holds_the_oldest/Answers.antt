use Rattle.std.proofs.Common.{[]}
use Rattle.sw_status.proofs.Queue.{fold-held}
use Rattle.sw_status.proofs.laws.queue_holds_the_oldest.Goals as goal

pub returns : goal.returns
returns c = fold-held []
