use Rattle.mainframe.proofs.LoadingLemmas.{loaded}
use Rattle.mainframe.proofs.loading.load.Goals as goal

pub returns-in-Done-None-clause-on : goal.returns-in-Done-None-clause-on
returns-in-Done-None-clause-on g c = loaded _ _ _ _ _ c.in-Done-None.field-0-is c.in-Done-None.ensures.passes
