use Rattle.std.proofs.Common.{refl}
use Rattle.sw_core.specs.Seen.{Pauses}
use Rattle.sw_workers.proofs.WorkedLemmas.{works-piece}
use Rattle.sw_workers.proofs.workers.end_pause.Goals as goal

pub returns : goal.returns
returns g c = λ micros. works-piece _ (Pauses c.args.ticket micros) _ _ _ _ _ refl c.tell-next.ensures c.carry.ensures.adds
