use Rattle.std.proofs.Common.{◌≡◌, ◌<◌, List, [], length, None, sym, ap, ◌∙◌, subst, arith}
use Rattle.sw_code.specs.declared.code.Step.{Step}
use Rattle.sw_verify.specs.Items.{items_of}
use Rattle.sw_verify.specs.Nest.{AreLimited, fault_in}
use Rattle.sw_verify.proofs.Limits.{limited_from_start}
use Rattle.sw_verify.proofs.Whole.{some_value}
use Rattle.sw_verify.proofs.ReadyLemmas.{runnable_by, readings_by, nested_here}
use Rattle.sw_verify.proofs.program.ScanProgram.judge.Goals as goal

pub tally-requires-clause-limited : goal.tally-requires-clause-limited
tally-requires-clause-limited c =
    let nested : fault_in c.args.code.steps 0 [] ≡ None = ap (λ (l : List Step). fault_in l 0 []) (sym c.steps.ensures.steps) ∙ sym c.in-Ok-None.ensures
    ∙ c.in-Ok-None.field-0-is in
    subst (λ (l : List Step). AreLimited l 1 []) (sym c.steps-4.ensures.steps) (limited_from_start c.args.code.steps c.steps-4.ensures.range.steps nested)

pub size-requires : goal.size-requires
size-requires c = record {
  closes = nested_here c.args.code c.steps.result.now c.steps-3.result.now c.steps-3.ensures.range c.steps.ensures.steps
      (sym c.in-Ok-None.ensures ∙ c.in-Ok-None.field-0-is) c.steps-3.ensures.steps;
}

pub overflow_cast-result : goal.overflow_cast-result
overflow_cast-result c =
    let r = runnable_by c.args.code c.steps.result.now c.steps-2.result.now c.steps-4.result.now c.steps-3.result.now c.in-Ok-tally.counts.bound c.in-Some.field-0
    c.steps-4.ensures.range c.steps.ensures.steps (sym c.in-Ok-None.ensures ∙ c.in-Ok-None.field-0-is) c.steps-2.ensures.steps
    (c.is_paced.ensures.0 c.if-not-is_paced.false) c.steps-4.ensures.steps c.in-Ok-tally.ensures.bound c.if-counts-eq0.false c.steps-3.ensures.steps
    (some_value c.in-Ok.items c.in-Some.field-0 (λ n. n ≡ length (items_of c.steps-3.result.now)) c.in-Some.is c.in-Ok.ensures.size)
    (some_value c.in-Ok.items c.in-Some.field-0 (λ n. n < 18446744073709551616) c.in-Some.is c.in-Ok.ensures.few) in
    let few = r.2 in
    omega (arith, few)

pub overflow_cast-result-2 : goal.overflow_cast-result-2
overflow_cast-result-2 c =
    let r = readings_by c.args.code c.steps.result.now c.steps-4.result.now c.steps-3.result.now c.in-Ok-tally.counts.readings c.in-Some.field-0
    c.steps-4.ensures.range c.steps.ensures.steps (sym c.in-Ok-None.ensures ∙ c.in-Ok-None.field-0-is) c.steps-4.ensures.steps
    c.in-Ok-tally.ensures.readings c.steps-3.ensures.steps
    (some_value c.in-Ok.items c.in-Some.field-0 (λ n. n ≡ length (items_of c.steps-3.result.now)) c.in-Some.is c.in-Ok.ensures.size)
    (some_value c.in-Ok.items c.in-Some.field-0 (λ n. n < 18446744073709551616) c.in-Some.is c.in-Ok.ensures.few) in
    let few = r.1 in
    omega (arith, few)

pub returns-clause-runnable : goal.returns-clause-runnable
returns-clause-runnable c =
    (runnable_by c.args.code c.steps.result.now c.steps-2.result.now c.steps-4.result.now c.steps-3.result.now c.in-Ok-tally.counts.bound c.in-Some.field-0
    c.steps-4.ensures.range c.steps.ensures.steps (sym c.in-Ok-None.ensures ∙ c.in-Ok-None.field-0-is) c.steps-2.ensures.steps
    (c.is_paced.ensures.0 c.if-not-is_paced.false) c.steps-4.ensures.steps c.in-Ok-tally.ensures.bound c.if-counts-eq0.false c.steps-3.ensures.steps
    (some_value c.in-Ok.items c.in-Some.field-0 (λ n. n ≡ length (items_of c.steps-3.result.now)) c.in-Some.is c.in-Ok.ensures.size)
    (some_value c.in-Ok.items c.in-Some.field-0 (λ n. n < 18446744073709551616) c.in-Some.is c.in-Ok.ensures.few)).0

pub invariant_of-result : goal.invariant_of-result
invariant_of-result c =
    let r = runnable_by c.args.code c.steps.result.now c.steps-2.result.now c.steps-4.result.now c.steps-3.result.now c.in-Ok-tally.counts.bound c.in-Some.field-0
    c.steps-4.ensures.range c.steps.ensures.steps (sym c.in-Ok-None.ensures ∙ c.in-Ok-None.field-0-is) c.steps-2.ensures.steps
    (c.is_paced.ensures.0 c.if-not-is_paced.false) c.steps-4.ensures.steps c.in-Ok-tally.ensures.bound c.if-counts-eq0.false c.steps-3.ensures.steps
    (some_value c.in-Ok.items c.in-Some.field-0 (λ n. n ≡ length (items_of c.steps-3.result.now)) c.in-Some.is c.in-Ok.ensures.size)
    (some_value c.in-Ok.items c.in-Some.field-0 (λ n. n < 18446744073709551616) c.in-Some.is c.in-Ok.ensures.few) in
    let q = readings_by c.args.code c.steps.result.now c.steps-4.result.now c.steps-3.result.now c.in-Ok-tally.counts.readings c.in-Some.field-0
    c.steps-4.ensures.range c.steps.ensures.steps (sym c.in-Ok-None.ensures ∙ c.in-Ok-None.field-0-is) c.steps-4.ensures.steps
    c.in-Ok-tally.ensures.readings c.steps-3.ensures.steps
    (some_value c.in-Ok.items c.in-Some.field-0 (λ n. n ≡ length (items_of c.steps-3.result.now)) c.in-Some.is c.in-Ok.ensures.size)
    (some_value c.in-Ok.items c.in-Some.field-0 (λ n. n < 18446744073709551616) c.in-Some.is c.in-Ok.ensures.few) in
    record { range = c.steps-4.ensures.range; runnable = r.0; bound = r.1; readings = q.0 }
