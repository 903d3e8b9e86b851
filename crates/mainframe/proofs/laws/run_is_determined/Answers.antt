use Rattle.mainframe.proofs.DeterminedLemmas.{run_once}
use Rattle.mainframe.proofs.laws.run_is_determined.Goals as goal

pub returns : goal.returns
returns c = run_once c.step_is_determined.ensures c.core_talk_is_determined.ensures c.core_rest_is_determined.ensures
