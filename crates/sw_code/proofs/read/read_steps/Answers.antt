use Rattle.std.proofs.Common.{◌+◌, ◌∷◌, [], ℕ, List, length, ap, sym, ◌∙◌, subst, arith, length-append}
use Rattle.std.specs.Prelude.{Ok, Result}
use Rattle.std.specs.List.{AllByRecursion}
use Rattle.sw_code.specs.declared.code.Step.{Step}
use Rattle.sw_code.specs.declared.fault.ListError.{ListError}
use Rattle.sw_code.specs.Range.{IsStep}
use Rattle.sw_code.specs.Reading.{parts_at, then_read, steps_in, after_steps}
use Rattle.sw_code.proofs.Listed.{steps_some, steps_push, after_one}
use Rattle.sw_code.proofs.read.read_steps.Goals as goal

pub lines-preserved : goal.lines-preserved
lines-preserved c =
    let v = c.args.version in
    let before = c.lines.steps.items in
    let line = c.lines.line in
    let first = c.in-Some.first.now in
    let more = parts_at 10 c.in-Some.others.now in
    let s = c.in_ok-step-in-Some.step in
    let pushed = c.in-Ok.ensures.items in
    let go : Result Step ListError → Result (List Step) ListError =
    λ r. after_steps before (then_read r (λ (x : Step). then_read (steps_in v (line + 1) more) (λ (steps : List Step). Ok (x ∷ steps)))) in
    record {
      same =
          c.lines.invariant.same
          ∙ ap (λ (x : List (List ℕ)). after_steps before (steps_in v line x)) c.in-Some.ensures.found
          ∙ ap (after_steps before) (steps_some v line first more c.in-Some.ensures.more)
          ∙ ap go (sym c.in_ok-step-in-Some.ensures.step)
          ∙ after_one before s (steps_in v (line + 1) more)
          ∙ ap (λ (l : List Step). after_steps l (steps_in v (line + 1) more)) (sym pushed);
      line = omega (arith, c.lines.invariant.line, ap length pushed, length-append before (s ∷ []));
      most = omega (arith, c.in_ok-step-in-Some.ensures.room);
      range = subst (AllByRecursion IsStep) (sym pushed) (steps_push before s c.lines.invariant.range c.in_ok-step-in-Some.ensures.range);
    }
