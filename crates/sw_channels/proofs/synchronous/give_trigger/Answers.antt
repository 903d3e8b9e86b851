use Rattle.sw_channels.proofs.SyncRowsLemmas.{trigger-within, trigger-alone}
use Rattle.sw_channels.proofs.synchronous.give_trigger.Goals as goal

pub returns-then-within : goal.returns-then-within
returns-then-within g c = trigger-within g.D.Desk.passes _ _ c.args.sid c.args.within _ c.if-within.true c.queue.ensures

pub returns : goal.returns
returns g c = trigger-alone g.D.Desk.passes _ _ c.args.sid c.args.within _ c.if-within.false c.settle.ensures
