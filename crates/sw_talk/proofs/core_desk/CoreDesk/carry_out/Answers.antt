use Rattle.std.proofs.Common.{refl}
use Rattle.sw_talk.proofs.core_desk.CoreDesk.carry_out.Goals as goal

pub returns-in-Measure-clause-step : goal.returns-in-Measure-clause-step
returns-in-Measure-clause-step g c = rw (← c.self.view_is, c.in-Measure.is) (_, (_, c.run.ensures, refl), c.come_back.ensures.brings)

pub returns-in-Pause-clause-step : goal.returns-in-Pause-clause-step
returns-in-Pause-clause-step g c = rw (← c.self.view_is, c.in-Pause.is) (_, refl, c.elapse.ensures.brings)
