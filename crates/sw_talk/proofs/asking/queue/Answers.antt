use Rattle.std.proofs.Common.{refl}
use Rattle.sw_core.specs.declared.ask.SessionAsk.TheVariants.{Fault}
use Rattle.sw_talk.specs.Trace.{Asked}
use Rattle.sw_talk.proofs.LedLemmas.{led-one}
use Rattle.sw_talk.proofs.asking.queue.Goals as goal

pub returns : goal.returns
returns g c = led-one g.D.Desk.passes _ _ _ (Asked (Fault c.args.sid c.args.error) c.ask-answer.result) c.ask-answer.ensures.passes (λ rest.
    (refl, c.after_queueing.ensures, refl))
