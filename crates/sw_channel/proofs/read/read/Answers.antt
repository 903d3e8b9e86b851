use Rattle.sw_channel.proofs.Judging.{channels_read}
use Rattle.sw_channel.proofs.read.read.Goals as goal

pub returns-in-Some : goal.returns-in-Some
returns-in-Some c = channels_read _ _ _ c.in-Some.ensures.found c.collect.ensures
