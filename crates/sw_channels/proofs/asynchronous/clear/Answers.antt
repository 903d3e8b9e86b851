use Rattle.std.proofs.Common.{refl, ap, ◌∙◌}
use Rattle.sw_core.specs.declared.ask.SessionAsk.TheVariants.{Clear}
use Rattle.sw_channels.specs.declared.step.Channel.TheVariants.{Asynchronous}
use Rattle.sw_talk.specs.Trace.{Asked}
use Rattle.sw_channels.specs.EngineStep.{on_done}
use Rattle.sw_channels.proofs.EngineAsksLemmas.{by-one}
use Rattle.sw_channels.proofs.asynchronous.clear.Goals as goal

pub returns : goal.returns
returns g c = by-one g.D.Desk.passes _ _ _ (Asked (Clear c.args.sid) c.ask-answer.result) c.ask-answer.ensures.passes
    (refl, c.on_done.ensures ∙ ap (λ m. on_done Asynchronous m c.ask-answer.result) c.plain-response.ensures)
