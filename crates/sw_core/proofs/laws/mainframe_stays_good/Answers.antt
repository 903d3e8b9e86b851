use Rattle.sw_core.proofs.EveryRunLemmas.{stays_good}
use Rattle.sw_core.proofs.laws.mainframe_stays_good.Goals as goal

pub returns : goal.returns
returns c = stays_good
