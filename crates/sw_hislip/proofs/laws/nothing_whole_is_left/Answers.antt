use Rattle.sw_hislip.proofs.Cuts.{left_is}
use Rattle.sw_hislip.proofs.laws.nothing_whole_is_left.Goals as goal

pub returns : goal.returns
returns c = left_is
