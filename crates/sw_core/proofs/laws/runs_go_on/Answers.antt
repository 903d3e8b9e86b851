use Rattle.sw_core.proofs.GoingOnLemmas.{runs_on}
use Rattle.sw_core.proofs.laws.runs_go_on.Goals as goal

pub returns : goal.returns
returns c = runs_on
