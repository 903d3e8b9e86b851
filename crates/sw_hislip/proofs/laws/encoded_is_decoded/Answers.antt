use Rattle.sw_hislip.proofs.ComingBack.{comes_back}
use Rattle.sw_hislip.proofs.laws.encoded_is_decoded.Goals as goal

pub returns : goal.returns
returns c = comes_back
