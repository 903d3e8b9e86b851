use Rattle.std.proofs.Common.{subst, sym}
use Rattle.sw_channels.specs.Said.{StepSeen}
use Rattle.sw_channels.specs.EngineAsync.{OpensAsync, attached_session}
use Rattle.sw_channels.proofs.EngineAsksLemmas.{by-so}
use Rattle.sw_channels.proofs.engine.attach.Goals as goal

pub returns : goal.returns
returns g c =
    by-so g.D.Desk.passes _ _ _ _ c.open-session.ensures
    (λ asked opens. (
      attached_session c.open-session.result,
      subst (λ (t : StepSeen). OpensAsync c.args.message.kind c.args.message.parameter asked t
          (attached_session c.open-session.result)) (sym c.attached.ensures.step) opens,
      c.attached.ensures.state,
    ))
