use Rattle.std.proofs.Common.{◌≡◌, ◌≤◌, ◌<◌, [], List, refl, ap, sym, ◌∙◌, subst, arith, inl, inr}
use Rattle.sw_code.specs.declared.code.Step.{Step}
use Rattle.sw_verify.specs.declared.refusal.Refusal.TheVariants.{NoMemory}
use Rattle.sw_verify.specs.Channels.{is_among}
use Rattle.sw_verify.specs.Nest.{AreLimited, tally, every, is_read}
use Rattle.sw_verify.specs.Denied.{IsDenied, IsPlanned}
use Rattle.sw_verify.proofs.Limits.{limited_from_start}
use Rattle.sw_verify.proofs.Denying.{only_memory, overflows, when_err}
use Rattle.sw_verify.proofs.Whole.{judged, has_counts}
use Rattle.sw_verify.proofs.verified.verify.Goals as goal

pub returns-in_err-in_order-clause-refused : goal.returns-in_err-in_order-clause-refused
returns-in_err-in_order-clause-refused c =
    when_err c.from_residual.result c.in_err-in_order.field-0.0 (IsDenied c.args.layout.now (is_among c.args.closed.now) c.args.points c.args.code)
    c.from_residual.ensures (c.in_err-in_order.ensures.refused c.args.points)

pub returns-in_err-in_order-clause-complete : goal.returns-in_err-in_order-clause-complete
returns-in_err-in_order-clause-complete c =
    when_err c.from_residual.result c.in_err-in_order.field-0.0 (λ r. IsPlanned c.args.layout.now (is_among c.args.closed.now) c.args.points c.args.code
    → r ≡ NoMemory) c.from_residual.ensures
    (only_memory c.args.layout.now (is_among c.args.closed.now) c.args.points c.args.code c.in_err-in_order.field-0.0
    (c.in_err-in_order.ensures.refused c.args.points))

pub tally-requires-clause-limited : goal.tally-requires-clause-limited
tally-requires-clause-limited c =
    subst (λ (l : List Step). AreLimited l 1 []) (sym c.steps.ensures.steps)
    (limited_from_start c.args.code.steps c.steps.ensures.range.steps c.in_ok-in_order.ensures.order.nested)

pub returns-then-counts-from-clause-refused : goal.returns-then-counts-from-clause-refused
returns-then-counts-from-clause-refused c =
    let few : c.args.points < tally is_read c.args.code.steps 1 [] =
    omega (arith, c.if-counts-from.true, c.from.ensures, c.in-Ok.ensures.readings, ap (λ (l : List Step). tally is_read l 1 []) c.steps.ensures.steps) in
    inr (inr (inr (inl (
      c.in_ok-in_order.ensures.order,
      c.in_ok-in_order.ensures.meter,
      overflows c.args.layout.now (is_among c.args.closed.now) c.args.points c.args.code c.steps.ensures.range c.in_ok-in_order.ensures.order few,
      refl,
    ))))

pub returns-then-counts-from-clause-complete : goal.returns-then-counts-from-clause-complete
returns-then-counts-from-clause-complete c =
    let few : c.args.points < tally is_read c.args.code.steps 1 [] =
    omega (arith, c.if-counts-from.true, c.from.ensures, c.in-Ok.ensures.readings, ap (λ (l : List Step). tally is_read l 1 []) c.steps.ensures.steps) in
    only_memory c.args.layout.now (is_among c.args.closed.now) c.args.points c.args.code _
    (inr (inr (inr (inl (
      c.in_ok-in_order.ensures.order,
      c.in_ok-in_order.ensures.meter,
      overflows c.args.layout.now (is_among c.args.closed.now) c.args.points c.args.code c.steps.ensures.range c.in_ok-in_order.ensures.order few,
      refl,
    )))))

pub invariant_of-result : goal.invariant_of-result
invariant_of-result c =
    let most : c.in-Ok.counts.readings ≤ c.args.points = omega (arith, c.if-counts-from.false, c.from.ensures) in
    let bound : c.in-Ok.counts.bound ≡ tally every c.args.code.steps 1 [] = c.in-Ok.ensures.bound
    ∙ ap (λ (l : List Step). tally every l 1 []) c.steps.ensures.steps in
    let readings : c.in-Ok.counts.readings ≡ tally is_read c.args.code.steps 1 [] = c.in-Ok.ensures.readings
    ∙ ap (λ (l : List Step). tally is_read l 1 []) c.steps.ensures.steps in
    let order = c.in_ok-in_order.ensures.order in
    has_counts c.args.layout.now (is_among c.args.closed.now) c.args.points c.args.code c.in-Ok.counts.bound c.in-Ok.counts.readings
    (judged c.args.layout.now (is_among c.args.closed.now) c.args.code c.args.points c.in-Ok.counts.bound c.in-Ok.counts.readings c.steps.ensures.range
    order.nested order.right c.in_ok-in_order.ensures.meter bound readings most)

pub returns-clause-sound : goal.returns-clause-sound
returns-clause-sound c =
    let most : c.in-Ok.counts.readings ≤ c.args.points = omega (arith, c.if-counts-from.false, c.from.ensures) in
    let bound : c.in-Ok.counts.bound ≡ tally every c.args.code.steps 1 [] = c.in-Ok.ensures.bound
    ∙ ap (λ (l : List Step). tally every l 1 []) c.steps.ensures.steps in
    let readings : c.in-Ok.counts.readings ≡ tally is_read c.args.code.steps 1 [] = c.in-Ok.ensures.readings
    ∙ ap (λ (l : List Step). tally is_read l 1 []) c.steps.ensures.steps in
    let order = c.in_ok-in_order.ensures.order in
    judged c.args.layout.now (is_among c.args.closed.now) c.args.code c.args.points c.in-Ok.counts.bound c.in-Ok.counts.readings c.steps.ensures.range
    order.nested order.right c.in_ok-in_order.ensures.meter bound readings most
