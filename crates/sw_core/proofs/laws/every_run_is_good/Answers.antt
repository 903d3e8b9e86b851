use Rattle.sw_core.proofs.EveryRunLemmas.{every_run}
use Rattle.sw_core.proofs.laws.every_run_is_good.Goals as goal

pub returns : goal.returns
returns c = every_run
