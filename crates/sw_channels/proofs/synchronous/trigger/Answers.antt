use Rattle.std.proofs.Common.{Bool, [], ap}
use Rattle.sw_channels.specs.Said.{StepSeen}
use Rattle.sw_channels.proofs.EngineAsksLemmas.{by-so}
use Rattle.sw_channels.proofs.synchronous.trigger.Goals as goal

pub returns : goal.returns
returns g c =
    let step : Bool → StepSeen = λ b. record { out = []; ends = b } in
    by-so g.D.Desk.passes _ _ _ _ c.give_trigger-answer.ensures (λ asked gives. (c.give_trigger-answer.result, gives, ap step c.is_gone.ensures))
