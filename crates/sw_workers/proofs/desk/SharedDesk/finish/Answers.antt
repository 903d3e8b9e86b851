use Rattle.sw_workers.proofs.AskedLemmas.{ends}
use Rattle.sw_workers.proofs.desk.SharedDesk.finish.Goals as goal

pub returns : goal.returns
returns g c = ends _ _ _ _ _ _ c.carried_out-ask.ensures.tells c.tell.ensures
