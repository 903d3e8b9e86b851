use Rattle.std.proofs.Common.{refl, ap, ◌∙◌}
use Rattle.sw_core.specs.declared.ask.SessionAsk.TheVariants.{Release}
use Rattle.sw_talk.specs.Trace.{Asked}
use Rattle.sw_channels.specs.EngineAsync.{lock_reply}
use Rattle.sw_channels.proofs.EngineAsksLemmas.{by-one}
use Rattle.sw_channels.proofs.locks.release.Goals as goal

pub returns : goal.returns
returns g c = by-one g.D.Desk.passes _ _ _ (Asked (Release c.args.sid) c.ask-answer.result) c.ask-answer.ensures.passes
    (refl, c.lock_reply.ensures ∙ ap lock_reply c.lock_code.ensures)
