use Rattle.std.proofs.Common.{ap, ◌∙◌}
use Rattle.sw_session.specs.ServeEngine.{told_step}
use Rattle.sw_session.proofs.ServeSpeaksLemmas.{looks-some}
use Rattle.sw_session.proofs.speaking.look.Goals as goal

pub returns-clause-ok : goal.returns-clause-ok
returns-clause-ok g c =
    looks-some g.D.Desk.passes _ _ _ _ c.args.sid c.poll.result _ c.requires c.poll.ensures
    (c.step_of.ensures ∙ c.told.ensures ∙ ap told_step c.notice-notice.ensures.told) c.notice-notice.ensures.state
