use Rattle.std.proofs.Common.{◌≡◌, ◌∙◌, ℕ, List, arith, ap, sym, subst}
use Rattle.sw_trigger.specs.Settings.{IsInRange}
use Rattle.sw_trigger.specs.Agenda.{Item}
use Rattle.sw_trigger.specs.Counts.{reads}
use Rattle.sw_verify.specs.declared.snapshot.Snapshot.{Snapshot}
use Rattle.sw_verify.specs.Setup.{course_of}
use Rattle.sw_verify.specs.Course.{sources_of}
use Rattle.sw_verify.specs.Channels.{is_among}
use Rattle.sw_verify.specs.Sound.{IsSound}
use Rattle.sw_verify.specs.Items.{items_of}
use Rattle.sw_verify.specs.Judged.{Judged}
use Rattle.sw_verify.proofs.ReadyLemmas.{ready_sound, ready_items, ready_runs, ready_course}
use Rattle.sw_verify.proofs.plan.Plan.into_course.Goals as goal

pub invariant_of-result : goal.invariant_of-result
invariant_of-result c =
    let p = c.self.inside.snapshot in
    let ready = c.self.invariant.ready in
    let code = c.into_inner.result.code in
    let is = ap (λ (v : Judged). v.code) c.into_inner.ensures ∙ c.self.invariant.code in
    let items = ready_items p code is ready in
    let range = subst (λ (x : Snapshot). IsInRange x.settings.scan) c.get.ensures c.points.ensures.range in
    let points : c.points.result ≡ p.settings.scan.points = c.points.ensures.points ∙ ap (λ (x : Snapshot). x.settings.scan.points) c.get.ensures in
    record {
      runs = ready_runs p code is range ready;
      fits = omega (arith, ap reads items, (ready_sound p ready).fits, points);
      room = omega (arith, range.points.1, points);
    }

pub returns-clause-course : goal.returns-clause-course
returns-clause-course c =
    let p = c.self.inside.snapshot in
    ready_course p c.into_inner.result.code c.new.result c.points.result
    (ap (λ (v : Judged). v.code) c.into_inner.ensures ∙ c.self.invariant.code) c.self.invariant.ready
    (c.new.ensures ∙ ap (λ (x : Snapshot). sources_of x.settings.scan) c.get.ensures)
    (c.points.ensures.points ∙ ap (λ (x : Snapshot). x.settings.scan.points) c.get.ensures)
    ∙ ap (λ (x : Snapshot). course_of x.settings) c.self.view_is

pub returns-clause-sound : goal.returns-clause-sound
returns-clause-sound c =
    let p = c.self.inside.snapshot in
    let ready = c.self.invariant.ready in
    let steps = c.into_inner.result.code.steps in
    let items = ready_items p c.into_inner.result.code (ap (λ (v : Judged). v.code) c.into_inner.ensures ∙ c.self.invariant.code) ready in
    let points : c.points.result ≡ p.settings.scan.points = c.points.ensures.points ∙ ap (λ (x : Snapshot). x.settings.scan.points) c.get.ensures in
    subst (λ (x : Snapshot). IsSound x.layout (is_among x.closed) c.points.result (items_of steps)) c.self.view_is
    (subst (λ (n : ℕ). IsSound p.layout (is_among p.closed) n (items_of steps)) (sym points)
    (subst (λ (l : List Item). IsSound p.layout (is_among p.closed) p.settings.scan.points l) (sym items) (ready_sound p ready)))
