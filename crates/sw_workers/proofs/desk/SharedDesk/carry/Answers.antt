use Rattle.std.specs.Prelude.{None}
use Rattle.sw_workers.proofs.CarriesLemmas.{carries-start, carries-sent}
use Rattle.sw_workers.proofs.desk.SharedDesk.carry.Goals as goal

pub returns-in-None : goal.returns-in-None
returns-in-None g c = rw c.in-None.is (carries-sent _ _ None None _ _ (carries-start _ _ _) tt)
