use Rattle.sw_talk.proofs.KeepingLemmas.{rests-idle}
use Rattle.sw_talk.proofs.core_desk.CoreDesk.rest.Goals as goal

pub returns-then-is_empty-clause-rests : goal.returns-then-is_empty-clause-rests
returns-then-is_empty-clause-rests g c = rw (← c.self.view_is) (rests-idle _ (c.is_empty.ensures.empty c.if-is_empty.true))
