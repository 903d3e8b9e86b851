use Rattle.std.proofs.Common.{ℕ, ◌≤◌, List, ap, sym, subst}
use Rattle.sw_base.specs.Limits.{most_slots}
use Rattle.sw_code.specs.declared.code.Step.{Step}
use Rattle.sw_code.specs.Code.{Unfolds}
use Rattle.sw_code.specs.Pace.{most_counting, IsPaced, IsNear}
use Rattle.sw_verify.specs.Items.{items_of}
use Rattle.sw_verify.specs.Course.{CourseSeen}
use Rattle.sw_cage.specs.Cage.{ScanSeen}
use Rattle.sw_cage.specs.Steps.{Does}
use Rattle.sw_cage.proofs.PlaceLemmas.{same_course}
use Rattle.sw_cage.proofs.scan.Scan.begin.Goals as goal

pub first-at-requires-clause-paced : goal.first-at-requires-clause-paced
first-at-requires-clause-paced c =
    subst (λ (l : List Step). IsPaced l most_counting) (sym c.steps.ensures.steps) c.into_parts-code.ensures.runs.paced

pub invariant_of-result : goal.invariant_of-result
invariant_of-result c =
    let runs = c.into_parts-code.ensures.runs in
    let steps = c.into_parts-code.result.0.steps in
    let unfolds = subst (λ (l : List Step). Unfolds l (items_of steps)) (sym c.steps.ensures.steps) runs.unfolds in
    record {
      runs = runs;
      does = subst (λ (k : List Step). Does k c.first-at.result (items_of steps)) c.steps.ensures.steps (c.first-at.ensures.does (items_of steps) unfolds);
      near = subst (λ (k : List Step). IsNear k 0 c.first-at.result.step) c.steps.ensures.steps c.first-at.ensures.near;
    }

pub returns-clause-scan : goal.returns-clause-scan
returns-clause-scan c =
    let code = c.into_parts-code.result.0 in
    let parts = c.into_parts-code.ensures in
    ap (λ (x : CourseSeen). let p : ScanSeen = record { course = x; index = 0 } in p)
    (same_course c.args.course (items_of code.steps) code.meter c.into_parts-code.result.1 c.into_parts-code.result.2 parts.items parts.meter parts.sources
    parts.points)

pub returns-clause-slot_in : goal.returns-clause-slot_in
returns-clause-slot_in c =
    let parts = c.into_parts-code.ensures in
    subst (λ (m : ℕ). (1 ≤ m) × (m ≤ most_slots)) parts.meter parts.runs.range.meter
