use Rattle.sw_macro.proofs.FillingsLemmas.{parameter_at}
use Rattle.sw_macro.proofs.filling.parameter.Goals as goal

pub returns-in-Some : goal.returns-in-Some
returns-in-Some c = parameter_at _ _ _ _ c.in-Some.ensures.lookup.3.0 c.in-Some.ensures.lookup.1 c.text_of.ensures
