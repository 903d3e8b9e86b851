use Rattle.sw_hislip.proofs.Wrong.{wrong_stays}
use Rattle.sw_hislip.proofs.laws.wrong_prologue_stays.Goals as goal

pub returns : goal.returns
returns c = wrong_stays
