use Rattle.sw_core.proofs.DeterminedLemmas.{step_once}
use Rattle.sw_core.proofs.laws.step_is_determined.Goals as goal

pub returns : goal.returns
returns c = step_once
