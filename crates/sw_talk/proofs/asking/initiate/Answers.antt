use Rattle.sw_talk.proofs.BeginsLemmas.{initiate-planned}
use Rattle.sw_talk.proofs.asking.initiate.Goals as goal

pub returns : goal.returns
returns g c = initiate-planned g.D.Desk.passes c.args.sid _ _ _ c.settle-told.result c.plan.result c.settle-told.ensures c.plan.ensures
