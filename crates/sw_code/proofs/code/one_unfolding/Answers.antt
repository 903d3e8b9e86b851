use Rattle.sw_code.proofs.Unfolding.{unfolds_once}
use Rattle.sw_code.proofs.code.one_unfolding.Goals as goal

pub returns : goal.returns
returns c = unfolds_once
