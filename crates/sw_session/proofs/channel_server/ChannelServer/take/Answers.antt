use Rattle.std.proofs.Common.{refl}
use Rattle.sw_session.specs.Acts.{Takes}
use Rattle.sw_session.proofs.ServePartsLemmas.{processes-said}
use Rattle.sw_session.proofs.ServeSpeaksLemmas.{takes-speaks, takes-falters}
use Rattle.sw_session.proofs.channel_server.ChannelServer.take.Goals as goal

pub returns-clause-processed : goal.returns-clause-processed
returns-clause-processed g c =
    let m = c.args.message in
    let told = c.take-said.ensures in
    processes-said _ _ _ _ (Takes m) c.take-said.result c.say.result
    (takes-speaks g.D.Desk.passes _ _ c.args.self.now.engine.now _ m c.take-said.result told.ok told.processed)
    (takes-falters g.D.Desk.passes _ _ c.args.self.now.engine.now _ m c.take-said.result told.err told.spent told.session)
    refl refl c.say.ensures.says
