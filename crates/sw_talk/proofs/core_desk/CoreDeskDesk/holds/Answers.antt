use Rattle.sw_talk.proofs.KeepingLemmas.{passes-held}
use Rattle.sw_talk.proofs.core_desk.CoreDeskDesk.holds.Goals as goal

pub returns : goal.returns
returns g c = λ held. rw (← c.self.view_is) (passes-held _ c.args.ask.now (c.holds.ensures.held held))
