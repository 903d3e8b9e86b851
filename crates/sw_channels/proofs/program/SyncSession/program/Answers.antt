use Rattle.std.proofs.Common.{true, false, IfOk, OnErr, Some, None, refl, ap, subst, ◌∙◌}
use Rattle.sw_core.specs.declared.ask.Sid.{Sid}
use Rattle.sw_channels.specs.EngineStep.{LedBy}
use Rattle.sw_channels.specs.EngineSync.{SyncStanding, ServesProgram, FallsShort}
use Rattle.sw_channels.proofs.SyncTalksLemmas.{program-stays, program-on}
use Rattle.sw_channels.proofs.SyncShortLemmas.{program-short}
use Rattle.sw_channels.proofs.program.SyncSession.program.Goals as goal

pub returns-in-Some-clause-ok : goal.returns-in-Some-clause-ok
returns-in-Some-clause-ok g c =
    let s : SyncStanding =
    record { sid = c.self.inside.sid; macros = c.self.inside.talker.macros; attached = c.self.inside.attached; partial = c.self.inside.partial } in
    subst (λ (t : SyncStanding). LedBy g.D.Desk.passes c.args.desk.now c.attend.new.desk (λ asked.
    ServesProgram false c.args.request t c.args.message asked c.step_of.result t)) c.self.view_is
    (program-stays g.D.Desk.passes _ _ c.args.request s s c.args.message
    (Some c.in-Some.reply) c.in-Some.reply c.step_of.result refl refl c.in-Some.ensures.led c.in-Some.ensures.ends c.step_of.ensures)

pub returns-in-None-clause-ok : goal.returns-in-None-clause-ok
returns-in-None-clause-ok g c =
    let s : SyncStanding =
    record { sid = c.self.inside.sid; macros = c.self.inside.talker.macros; attached = c.self.inside.attached; partial = c.self.inside.partial } in
    subst (λ (t : SyncStanding). IfOk c.process.result (λ step.
    LedBy g.D.Desk.passes c.args.desk.now c.process.new.desk (λ asked.
    ServesProgram false c.args.request t c.args.message asked step c.process.new.self))) c.self.view_is
    (program-on g.D.Desk.passes _ _ _ c.args.request s _ c.args.message None c.process.result refl c.in-None.ensures.led c.process.ensures.ok)

pub returns-in-None-clause-err : goal.returns-in-None-clause-err
returns-in-None-clause-err g c =
    let s : SyncStanding =
    record { sid = c.self.inside.sid; macros = c.self.inside.talker.macros; attached = c.self.inside.attached; partial = c.self.inside.partial } in
    subst (λ (t : SyncStanding). OnErr c.process.result
    (LedBy g.D.Desk.passes c.args.desk.now c.process.new.desk (λ asked. FallsShort (ServesProgram true c.args.request t c.args.message) asked))) c.self.view_is
    (program-short g.D.Desk.passes _ _ _ c.args.request s c.args.message None c.process.result refl c.in-None.ensures.led c.process.ensures.err)

pub returns-in-None-clause-same : goal.returns-in-None-clause-same
returns-in-None-clause-same g c =
    let sid : SyncStanding → Sid = λ t. t.sid in
    c.process.ensures.same ∙ ap sid c.self.view_is
