use Rattle.std.proofs.Common.{ap, ◌∙◌}
use Rattle.sw_core.specs.declared.ask.SessionAsk.TheVariants.{Size}
use Rattle.sw_channels.specs.declared.step.Channel.TheVariants.{Asynchronous}
use Rattle.sw_talk.specs.Trace.{Asked}
use Rattle.sw_channels.specs.EngineStep.{on_done}
use Rattle.sw_channels.proofs.EngineAsksLemmas.{by-one}
use Rattle.sw_channels.proofs.asynchronous.note_size.Goals as goal

pub returns-clause-ok : goal.returns-clause-ok
returns-clause-ok g c =
    by-one g.D.Desk.passes _ _ _ (Asked (Size c.args.sid c.size_told.result) c.ask-answer.result) c.ask-answer.ensures.passes
    (ap (λ n. Size c.args.sid n) c.size_told.ensures, c.on_done.ensures ∙ ap (λ m. on_done Asynchronous m c.ask-answer.result) c.in_ok-response.ensures)
