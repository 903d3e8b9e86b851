use Rattle.sw_workers.proofs.AskedLemmas.{brings-taken}
use Rattle.sw_workers.proofs.desk.SharedDesk.tell.Goals as goal

pub returns-in-Taken : goal.returns-in-Taken
returns-in-Taken g c = brings-taken _ _ c.act.new.answer _ _ _ c.act.ensures c.in-Taken.is
