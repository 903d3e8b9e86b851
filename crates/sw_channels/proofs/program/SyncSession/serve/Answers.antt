use Rattle.sw_channels.proofs.SyncTalksLemmas.{serves-part, serves-end, serves-trigger}
use Rattle.sw_channels.proofs.SyncShortLemmas.{part-short, end-short}
use Rattle.sw_channels.proofs.program.SyncSession.serve.Goals as goal

pub returns-in-Part-clause-ok : goal.returns-in-Part-clause-ok
returns-in-Part-clause-ok g c =
    serves-part g.D.Desk.passes c.args.desk.now c.args.request c.args.self.now _ c.args.message c.args.said.items c.keep.result c.in-Part.is c.keep.ensures.kept

pub returns-in-Part-clause-err : goal.returns-in-Part-clause-err
returns-in-Part-clause-err g c = part-short g.D.Desk.passes c.args.desk.now c.args.request c.args.self.now c.args.message c.keep.result c.in-Part.is

pub returns-in-End-clause-ok : goal.returns-in-End-clause-ok
returns-in-End-clause-ok g c =
    serves-end g.D.Desk.passes _ _ c.args.request c.args.self.now _ c.args.message c.args.said.items c.finish.result c.in-End.is c.finish.ensures.ok

pub returns-in-End-clause-err : goal.returns-in-End-clause-err
returns-in-End-clause-err g c = end-short g.D.Desk.passes _ _ c.args.request c.args.self.now c.args.message c.finish.result c.in-End.is c.finish.ensures.err

pub returns-in-Trigger-clause-ok : goal.returns-in-Trigger-clause-ok
returns-in-Trigger-clause-ok g c =
    serves-trigger g.D.Desk.passes _ _ c.args.request c.args.self.now _ c.args.message c.args.said.items _ c.in-Trigger.is c.trigger.ensures.ok
    c.trigger.ensures.state
