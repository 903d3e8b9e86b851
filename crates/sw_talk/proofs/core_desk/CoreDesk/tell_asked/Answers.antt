use Rattle.sw_talk.proofs.core_desk.CoreDesk.tell_asked.Goals as goal

pub returns-clause-step : goal.returns-clause-step
returns-clause-step g c = rw (← c.self.view_is) c.ask.ensures.step
