use Rattle.sw_talk.proofs.HandedBackLemmas.{handed-back}
use Rattle.sw_talk.proofs.core_desk.CoreDeskDesk.ask_into.Goals as goal

pub returns-clause-back : goal.returns-clause-back
returns-clause-back g c = handed-back _ c.args.ask _ _ _ _ c.tell_asked.ensures.step
