use Rattle.sw_workers.proofs.WorkedLemmas.{works-piece}
use Rattle.sw_workers.proofs.desk.SharedDesk.work_off.Goals as goal

pub returns : goal.returns
returns g c = works-piece _ _ c.finish-next.ensures.ask _ _ _ _ c.finish-next.ensures.tells c.finish-next.ensures.told c.carry.ensures.adds
