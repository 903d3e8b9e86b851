use Rattle.std.proofs.Common.{◌≡◌, ◌∙◌, ap, arith, length, Some}
use Rattle.std.specs.List.{slice_get}
use Rattle.sw_base.specs.Limits.{most_counters}
use Rattle.sw_code.specs.declared.code.Step.TheVariants as step
use Rattle.sw_cage.proofs.StepLemmas.{range_at, does_set, loop_does}
use Rattle.sw_cage.proofs.scan.steps.has_counted.Goals as goal

pub returns-in-Some-Set-clause-does : goal.returns-in-Some-Set-clause-does
returns-in-Some-Set-clause-does c = λ _ items d.
    let code = c.args.steps.now in
    let at = c.args.at.now in
    let k = c.in-Some-Set.counter in
    let n = c.in-Some-Set.turns in
    let e : slice_get code at.step ≡ Some (step.Set k n) = c.in-Some-Set.ensures.step ∙ ap Some c.in-Some-Set.field-0-is in
    let r = range_at code at.step (step.Set k n) c.requires.range e in
    let len : length at.counters ≡ most_counters = assumption c.well_formed in
    does_set code at k n items e (omega (arith, r.0, len)) d

pub returns-in-Some-Loop-clause-does : goal.returns-in-Some-Loop-clause-does
returns-in-Some-Loop-clause-does c = λ _ items d.
    let code = c.args.steps.now in
    let at = c.args.at.now in
    let k = c.in-Some-Loop.counter in
    let to = c.in-Some-Loop.to in
    let e : slice_get code at.step ≡ Some (step.Loop k to) = c.in-Some-Loop.ensures.step ∙ ap Some c.in-Some-Loop.field-0-is in
    let r = range_at code at.step (step.Loop k to) c.requires.range e in
    let len : length at.counters ≡ most_counters = assumption c.well_formed in
    loop_does code at k to items c.turn.new.at e (omega (arith, r.0, len)) d c.turn.ensures.again c.turn.ensures.over
