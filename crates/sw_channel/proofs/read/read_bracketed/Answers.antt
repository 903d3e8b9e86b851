use Rattle.sw_channel.proofs.Judging.{positions_read}
use Rattle.sw_channel.proofs.read.read_bracketed.Goals as goal

pub returns-in-Some : goal.returns-in-Some
returns-in-Some c = positions_read _ _ _ c.in-Some.ensures.found c.collect_positions.ensures
