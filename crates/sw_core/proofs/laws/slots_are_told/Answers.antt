use Rattle.sw_core.proofs.SlotsToldLemmas.{slots_told}
use Rattle.sw_core.proofs.laws.slots_are_told.Goals as goal

pub returns : goal.returns
returns c = slots_told
