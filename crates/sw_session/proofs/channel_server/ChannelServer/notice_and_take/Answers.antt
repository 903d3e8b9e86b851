use Rattle.std.proofs.Common.{sym, ◌∙◌}
use Rattle.sw_session.specs.Acts.{Notices, Takes}
use Rattle.sw_session.specs.Server.{voice_of}
use Rattle.sw_session.proofs.ServeWaysLemmas.{processes-is, went-on, each-two, each-over}
use Rattle.sw_session.proofs.ServerLemmas.{processes-so}
use Rattle.sw_session.proofs.channel_server.ChannelServer.notice_and_take.Goals as goal

pub returns-then-goes_on-clause-processed : goal.returns-then-goes_on-clause-processed
returns-then-goes_on-clause-processed g c =
    each-two (voice_of g.D.Desk.passes c.args.self.now) Notices (Takes c.args.message) _ _ _ _
    (processes-is (voice_of g.D.Desk.passes c.args.self.now) Notices _ _ c.notice-processed.result _
    (went-on c.notice-processed.result (sym c.goes_on.ensures ∙ c.if-goes_on.true)) c.notice-processed.ensures.processed)
    (processes-so g.D.Desk.passes _ _ (Takes c.args.message) _ _ _ c.notice-processed.ensures.stays c.take.ensures.processed)

pub returns-clause-processed : goal.returns-clause-processed
returns-clause-processed g c =
    each-over (voice_of g.D.Desk.passes c.args.self.now) Notices (Takes c.args.message) _ _ c.notice-processed.result
    (sym c.goes_on.ensures ∙ c.if-goes_on.false) c.notice-processed.ensures.processed
