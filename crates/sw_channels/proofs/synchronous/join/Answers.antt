use Rattle.std.proofs.Common.{refl}
use Rattle.sw_core.specs.declared.ask.SessionAsk.TheVariants.{Join}
use Rattle.sw_talk.specs.Trace.{Asked}
use Rattle.sw_channels.proofs.EngineAsksLemmas.{by-one}
use Rattle.sw_channels.proofs.synchronous.join.Goals as goal

pub returns : goal.returns
returns g c = λ parameter.
    by-one g.D.Desk.passes _ _ _ (Asked Join c.ask-answer.result) c.ask-answer.ensures.passes (refl, c.joined.ensures.step parameter, c.joined.ensures.session)
