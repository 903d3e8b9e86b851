use Rattle.std.proofs.Common.{subst, sym}
use Rattle.sw_channels.specs.Said.{StepSeen}
use Rattle.sw_channels.specs.EngineSync.{OpensSync, opened_session}
use Rattle.sw_channels.proofs.EngineAsksLemmas.{by-so}
use Rattle.sw_channels.proofs.engine.join.Goals as goal

pub returns : goal.returns
returns g c =
    by-so g.D.Desk.passes _ _ _ _ c.open-session.ensures
    (λ asked opens. (
      opened_session c.open-session.result,
      subst (λ (t : StepSeen). OpensSync c.args.message asked t (opened_session c.open-session.result))
          (sym c.joined.ensures.step) opens,
      c.joined.ensures.state,
    ))
