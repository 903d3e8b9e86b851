use Rattle.sw_macro.proofs.ExpansionsLemmas.{one_expanded}
use Rattle.sw_macro.proofs.expand.one_expansion.Goals as goal

pub returns : goal.returns
returns c = one_expanded
