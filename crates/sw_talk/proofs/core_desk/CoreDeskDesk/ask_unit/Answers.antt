use Rattle.std.proofs.Common.{refl}
use Rattle.sw_core.specs.declared.ask.SessionAsk.TheVariants.{Unit}
use Rattle.sw_talk.proofs.HandedBackLemmas.{handed-back}
use Rattle.sw_talk.proofs.KeepingLemmas.{passes-unit}
use Rattle.sw_talk.proofs.core_desk.CoreDeskDesk.ask_unit.Goals as goal

pub returns-clause-passes : goal.returns-clause-passes
returns-clause-passes g c =
    passes-unit _ _ _ c.args.sid c.args.command c.args.answered _ _ _ c.tell_unit.ensures.step refl c.tell_unit.ensures.work c.tell_unit.ensures.room
    c.tell_unit.ensures.available c.keep.ensures

pub returns-clause-back : goal.returns-clause-back
returns-clause-back g c = handed-back _ (Unit c.args.sid c.args.command c.args.answered) _ _ _ _ c.tell_unit.ensures.step
