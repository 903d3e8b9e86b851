use Rattle.sw_channels.proofs.EngineTakesLemmas.{falters-unopened, falters-sync, falters-async, takes-sync, takes-async, stays-sync, stays-async}
use Rattle.sw_channels.proofs.engine.State.take.Goals as goal

pub returns-in_err-opened-in-Unopened-clause-err : goal.returns-in_err-opened-in-Unopened-clause-err
returns-in_err-opened-in-Unopened-clause-err g c =
    falters-unopened g.D.Desk.passes _ _ c.args.self.now _ c.args.message c.from_residual.result c.in-Unopened.is c.in_err-opened-in-Unopened.ensures.unasked

pub returns-in-Synchronized-clause-ok : goal.returns-in-Synchronized-clause-ok
returns-in-Synchronized-clause-ok g c = takes-sync g.D.Desk.passes _ _ c.args.self.now _ _ c.args.message c.take.result c.in-Synchronized.is c.take.ensures.ok

pub returns-in-Synchronized-clause-err : goal.returns-in-Synchronized-clause-err
returns-in-Synchronized-clause-err g c = falters-sync g.D.Desk.passes _ _ c.args.self.now _ c.args.message c.take.result c.in-Synchronized.is c.take.ensures.err

pub returns-in-Synchronized-clause-session : goal.returns-in-Synchronized-clause-session
returns-in-Synchronized-clause-session g c = stays-sync c.args.self.now _ c.take.new.self c.take.result c.in-Synchronized.is c.take.ensures.same

pub returns-in-Attached-clause-ok : goal.returns-in-Attached-clause-ok
returns-in-Attached-clause-ok g c =
    takes-async g.D.Desk.passes _ _ c.args.self.now _ _ c.args.message c.take-in-Attached.result c.in-Attached.is c.take-in-Attached.ensures.ok

pub returns-in-Attached-clause-err : goal.returns-in-Attached-clause-err
returns-in-Attached-clause-err g c =
    falters-async g.D.Desk.passes _ _ c.args.self.now _ c.args.message c.take-in-Attached.result c.in-Attached.is c.take-in-Attached.ensures.unasked

pub returns-in-Attached-clause-session : goal.returns-in-Attached-clause-session
returns-in-Attached-clause-session g c = stays-async c.args.self.now _ _ c.take-in-Attached.result c.in-Attached.is c.take-in-Attached.ensures.same
