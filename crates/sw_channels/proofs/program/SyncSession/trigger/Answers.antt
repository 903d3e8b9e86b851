use Rattle.std.proofs.Common.{Bool, [], subst}
use Rattle.sw_channels.specs.Said.{StepSeen}
use Rattle.sw_channels.specs.EngineStep.{LedBy}
use Rattle.sw_channels.specs.EngineSync.{SyncStanding, Triggers, SaysMore, is_within}
use Rattle.sw_channels.proofs.EngineAsksLemmas.{by-so}
use Rattle.sw_channels.proofs.program.SyncSession.trigger.Goals as goal

pub returns-clause-ok : goal.returns-clause-ok
returns-clause-ok g c =
    let own : StepSeen = record { out = []; ends = c.trigger-ends.result } in
    subst (λ (t : SyncStanding). LedBy g.D.Desk.passes c.args.desk.now c.trigger-ends.new.desk (λ asked.
    SaysMore c.args.said.items c.told.result (λ more. Triggers (is_within t.partial) t.sid asked more))) c.self.view_is
    (by-so g.D.Desk.passes _ _ _ _ c.trigger-ends.ensures
    (λ asked triggers. (own, subst (λ (b : Bool). Triggers b c.self.inside.sid asked own) c.is_within-within.ensures triggers, c.told.ensures)))
