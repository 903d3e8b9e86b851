use Rattle.std.proofs.Common.{refl, sym, ◌∙◌, arith}
use Rattle.sw_code.specs.Pace.{most_counting}
use Rattle.sw_verify.proofs.PacedLemmas.{after_near, within, near_more, step_there}
use Rattle.sw_verify.proofs.pace.is_paced.Goals as goal
use Rattle.sw_verify.proofs.pace.is_paced.Goals.{else-does_more-via-then-does_more+else-not-is_near-2, else-does_more-via-else-does_more}

pub returns-then-not-is_near-2 : goal.returns-then-not-is_near-2
returns-then-not-is_near-2 c =
    let steps = c.args.steps.now in
    let i = c.loop-i.i in
    let s = c.index-steps-i.result in
    let here = step_there steps i s c.loop-i-test.true c.index-steps-i.is in (
      λ t. absurd (cc t),
      λ p. absurd (cc (sym c.if-not-is_near-2.true
          ∙ c.is_near-then-does_more.ensures.1 (after_near steps most_counting i s (sym c.does_more.ensures ∙ c.if-does_more.true) (p.after i s here)))),
    )

pub loop-i-preserved : goal.loop-i-preserved
loop-i-preserved c =
    let steps = c.args.steps.now in
    let i = c.loop-i.i in
    let s = c.index-steps-i.result in
    let here = step_there steps i s c.loop-i-test.true c.index-steps-i.is in
    near_more steps most_counting i s here
    (λ more. elim c.else-does_more.branch [
      | else-does_more-via-then-does_more+else-not-is_near-2 w ↦ w.is_near-then-does_more.ensures.0 w.if-not-is_near-2.false
      | else-does_more-via-else-does_more w ↦ absurd (cc (sym w.if-does_more.false ∙ c.does_more.ensures ∙ more))
    ])
    c.loop-i.invariant

pub returns : goal.returns
returns c =
    let steps = c.args.steps.now in (
      λ t. record {
        start = c.is_near.ensures.0 c.if-not-is_near.false;
        after = λ pc s e. let w = within steps pc s e in c.loop-i.invariant pc s (omega (arith, w, c.loop-i-test.false)) e;
      },
      λ p. refl,
    )
