use Rattle.sw_core.proofs.ClosingToldLemmas.{closing_told}
use Rattle.sw_core.proofs.laws.closing_is_told.Goals as goal

pub returns : goal.returns
returns c = closing_told
