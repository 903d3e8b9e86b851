use Rattle.std.proofs.Common.{◌≡◌, Bool, ap, sym, subst, ◌∙◌}
use Rattle.std.specs.Prelude.{if◌then◌else◌}
use Rattle.sw_verify.specs.declared.snapshot.Snapshot.{Snapshot}
use Rattle.sw_verify.specs.Course.{CourseSeen}
use Rattle.sw_verify.specs.Setup.{course_of}
use Rattle.sw_cage.specs.Outcome.{Advances, begun}
use Rattle.sw_cage.specs.TakenSeen.{taken_seen}
use Rattle.sw_cage.proofs.CardLemmas.{seen_is}
use Rattle.sw_core.specs.Panel.{Panel}
use Rattle.sw_core.specs.Registers.{card_fault_reported, card_fault_cleared}
use Rattle.sw_core.specs.Step.{MayScan, snapshot_of}
use Rattle.sw_core.proofs.CardsLemmas.{seen_is as panel_is}
use Rattle.sw_core.proofs.HappenedLemmas.{unbegun, started}
use Rattle.sw_core.proofs.state.Core.begin.Goals as goal

pub returns-in-Err-clause-step : goal.returns-in-Err-clause-step
returns-in-Err-clause-step g c =
    let p : Panel = record {
      cage = c.self.inside.cage.seen;
      sessions = c.self.inside.sessions;
      status = c.self.inside.status;
      settings = c.self.inside.settings;
      opc_waits = c.self.inside.opc_waits;
      events = c.self.inside.events;
    } in
    rw (c.requires.empty, ← c.self.view_is) (unbegun p c.args.plan c.start.new.self.seen (seen_is c.in-Err.ensures.err) (subst (λ (x : Panel).
    MayScan x) (sym (panel_is c.self.view_is)) c.requires.may) (subst (λ (x : Panel). c.args.plan ≡ snapshot_of x) (sym (panel_is c.self.view_is)) c.requires.same))

pub returns-in-Ok-clause-step : goal.returns-in-Ok-clause-step
returns-in-Ok-clause-step g c =
    let p : Panel = record {
      cage = c.self.inside.cage.seen;
      sessions = c.self.inside.sessions;
      status = c.self.inside.status;
      settings = c.self.inside.settings;
      opc_waits = c.self.inside.opc_waits;
      events = c.self.inside.events;
    } in
    let same : c.args.plan ≡ snapshot_of p = subst (λ (x : Panel). c.args.plan ≡ snapshot_of x) (sym (panel_is c.self.view_is)) c.requires.same in
    let goes : Advances (begun p.cage) (course_of p.settings) 0 (taken_seen c.in-Ok.told) c.start.new.self.seen =
    subst (λ (x : CourseSeen). Advances (begun p.cage) x 0 (taken_seen c.in-Ok.told) c.start.new.self.seen)
    (c.into_course.ensures.course ∙ ap (λ (x : Snapshot). course_of x.settings) same) c.in-Ok.ensures.ok in
    let status = c.set_card_fault.ensures ∙ ap (λ (b : Bool). if b then card_fault_reported p.status else card_fault_cleared p.status) c.tells_fault.ensures in
    rw (
      ← c.self.view_is,
      c.started_answer-answer.ensures,
      c.work_of.ensures.seen,
    ) (started p c.args.plan (taken_seen c.in-Ok.told) c.start.new.self.seen c.set_card_fault.new.status (subst (λ (x : Panel).
    MayScan x) (sym (panel_is c.self.view_is)) c.requires.may) same c.requires.ready goes status)
