use Rattle.std.proofs.Common.{◌++◌, List, ap, sym, ◌∙◌, append_assoc}
use Rattle.sw_trigger.specs.Agenda.{passes, pass_of}
use Rattle.sw_code.specs.Compiled.{steps_of}
use Rattle.sw_code.specs.declared.code.Step.{Step}
use Rattle.sw_code.proofs.Compiled.{steps-passes_more}
use Rattle.sw_code.proofs.emit.put_passes.Goals as goal

pub loop-k-preserved : goal.loop-k-preserved
loop-k-preserved c =
    let s = c.args.settings.now in
    let j = c.loop-k.k in
    let code = c.args.steps.now.items in
    c.in_ok-put_pass.ensures
    ∙ ap (λ (l : List Step). l ++ steps_of (pass_of s j)) c.loop-k.invariant
    ∙ append_assoc code (steps_of (passes s 0 j)) (steps_of (pass_of s j))
    ∙ ap (λ (l : List Step). code ++ l) (sym (steps-passes_more s j))
