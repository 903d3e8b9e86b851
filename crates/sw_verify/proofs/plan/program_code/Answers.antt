use Rattle.std.proofs.Common.{List, sym, ap, ◌∙◌}
use Rattle.std.proofs.lemmas.Bool.{both_ways}
use Rattle.std.specs.List.{list_all}
use Rattle.sw_code.specs.Range.{Program}
use Rattle.sw_code.specs.declared.code.Step.{Step}
use Rattle.sw_verify.specs.Ready.{has_source}
use Rattle.sw_verify.proofs.ReadyLemmas.{ready_here, refused_here, unfolds_here, unsourced_here}
use Rattle.sw_verify.proofs.plan.program_code.Goals as goal

pub returns-in-Err-clause-refused : goal.returns-in-Err-clause-refused
returns-in-Err-clause-refused c =
    refused_here c.args.snapshot.now c.args.program.now c.in-Ok.code c.code.ensures.range c.code.ensures.runnable c.as_slice-closed.result.now c.points.result
    (c.in-Ok.ensures ∙ c.code.ensures.code) c.as_slice-closed.ensures c.points.ensures.points c.in-Err.refusal c.in-Err.ensures.refused

pub returns-in-Ok-verify-clause-refused : goal.returns-in-Ok-verify-clause-refused
returns-in-Ok-verify-clause-refused c =
    let steps = c.steps.ensures.steps ∙ ap (λ (code : Program). code.steps) c.code-in-Ok-verify.ensures.code in
    let told = ap (λ (l : List Step). list_all (has_source c.args.snapshot.now.settings.scan) l) (sym steps) ∙ sym c.are_sourced.ensures in
    unsourced_here c.args.snapshot.now c.args.program.now c.in-Ok.code c.code.ensures.range c.code.ensures.runnable c.as_slice-closed.result.now
    c.points.result (c.in-Ok.ensures ∙ c.code.ensures.code) c.as_slice-closed.ensures c.points.ensures.points c.in-Ok-verify.field-0
    c.in-Ok-verify.ensures.sound c.in-Ok-verify.ensures.order (λ e. both_ways c.are_sourced.result c.if-not-are_sourced.true (sym told ∙ e))

pub returns-in-Ok-2-clause-ready : goal.returns-in-Ok-2-clause-ready
returns-in-Ok-2-clause-ready c =
    let steps = c.steps.ensures.steps ∙ ap (λ (code : Program). code.steps) c.code-in-Ok-verify.ensures.code in
    let told = ap (λ (l : List Step). list_all (has_source c.args.snapshot.now.settings.scan) l) (sym steps) ∙ sym c.are_sourced.ensures in
    ready_here c.args.snapshot.now c.args.program.now c.in-Ok.code c.code.ensures.range c.code.ensures.runnable c.as_slice-closed.result.now c.points.result
    (c.in-Ok.ensures ∙ c.code.ensures.code) c.as_slice-closed.ensures c.points.ensures.points c.in-Ok-2.verified c.in-Ok-2.ensures.sound
    c.in-Ok-2.ensures.order (told ∙ c.if-not-are_sourced.false)

pub returns-in-Ok-2-clause-unfolds : goal.returns-in-Ok-2-clause-unfolds
returns-in-Ok-2-clause-unfolds c =
    unfolds_here c.args.snapshot.now c.args.program.now c.in-Ok.code c.code.ensures.range c.code.ensures.runnable c.as_slice-closed.result.now c.points.result
    (c.in-Ok.ensures ∙ c.code.ensures.code) c.as_slice-closed.ensures c.points.ensures.points c.in-Ok-verify.field-0 c.in-Ok-verify.ensures.sound
