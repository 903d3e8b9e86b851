use Rattle.sw_channels.proofs.SyncRowsLemmas.{attends-seen, attends-asked}
use Rattle.sw_channels.proofs.synchronous.attend.Goals as goal

pub returns-then-attached-clause-led : goal.returns-then-attached-clause-led
returns-then-attached-clause-led g c = attends-seen g.D.Desk.passes _ c.args.sid c.args.attached c.if-attached.true

pub returns-clause-led : goal.returns-clause-led
returns-clause-led g c =
    attends-asked g.D.Desk.passes _ _ c.args.sid c.args.attached c.ask-answer.result _ c.if-attached.false c.ask-answer.ensures.passes c.attended.ensures.step
