use Rattle.sw_workers.proofs.WorkedLemmas.{works-more}
use Rattle.sw_workers.proofs.workers.run_card_worker.Goals as goal

pub loop-preserved : goal.loop-preserved
loop-preserved g c = works-more _ _ _ _ _ _ c.loop.invariant c.in-Ok.ensures c.work_off.ensures
