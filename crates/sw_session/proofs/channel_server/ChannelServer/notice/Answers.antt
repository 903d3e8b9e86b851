use Rattle.std.proofs.Common.{sym, refl, ◌∙◌}
use Rattle.sw_session.specs.Acts.{Notices}
use Rattle.sw_session.proofs.ServePartsLemmas.{processes-said}
use Rattle.sw_session.proofs.ServeSpeaksLemmas.{tells-none, looks-speaks, looks-falters}
use Rattle.sw_session.proofs.channel_server.ChannelServer.notice.Goals as goal

pub returns-in-None-clause-processed : goal.returns-in-None-clause-processed
returns-in-None-clause-processed g c =
    tells-none g.D.Desk.passes c.args.self.now.own _ (sym c.second_session.ensures ∙ c.in-None.is)

pub returns-in-Some-clause-processed : goal.returns-in-Some-clause-processed
returns-in-Some-clause-processed g c =
    processes-said _ _ _ _ Notices c.look-said.result c.say.result
    (looks-speaks g.D.Desk.passes _ _ c.args.self.now.engine.now _ c.look-said.result c.look-said.ensures.ok c.look-said.ensures.spent)
    (looks-falters g.D.Desk.passes _ _ c.args.self.now.engine.now _ c.look-said.result c.look-said.ensures.same c.look-said.ensures.unasked)
    refl refl c.say.ensures.says
