use Rattle.std.proofs.Common.{◌≡◌, ◌<◌, ◌+◌, ◌/◌, ◌%◌, ◌++◌, ◌∷◌, [], List, length, ap, ◌∙◌, arith}
use Rattle.std.proofs.lemmas.Result.{on_ok_weaker}
use Rattle.sw_base.specs.Limits.{most_arm_layers}
use Rattle.sw_trigger.specs.Agenda.{passes}
use Rattle.sw_code.specs.Compiled.{steps_of}
use Rattle.sw_trigger.specs.declared.layer.Layer.{Layer}
use Rattle.sw_code.specs.declared.code.Step.{Step}
use Rattle.sw_code.specs.declared.code.Step.TheVariants as step
use Rattle.sw_code.proofs.Compiled.{plain_is, looped_is, four_more}
use Rattle.sw_code.proofs.emit.put_rounds.Goals as goal

pub returns-then-rounds-eq0-clause-steps : goal.returns-then-rounds-eq0-clause-steps
returns-then-rounds-eq0-clause-steps c =
    let s = c.args.settings.now in
    let code = c.args.steps.now.items in
    let count : c.layer-count.result.count ≡ s.trigger.count = ap (λ (l : Layer). l.count) c.layer-count.ensures.layer in
    let entries : length c.list.result.now ≡ length s.list = ap length c.list.ensures.list in
    let h : s.trigger.count / length s.list ≡ 0 = cc (c.if-rounds-eq0.true) in
    on_ok_weaker c.put_passes.result
    (λ e. e ∙ ap (λ (l : List Step). code ++ l)
    (plain_is s (length code) (steps_of (passes s 0 (c.layer-count.result.count % length c.list.result.now))) h cc))
    c.put_passes.ensures

pub returns-clause-steps : goal.returns-clause-steps
returns-clause-steps c =
    let s = c.args.settings.now in
    let code = c.args.steps.now.items in
    let n = length c.list.result.now in
    let k = c.layer-count.result.count in
    let count : k ≡ s.trigger.count = ap (λ (l : Layer). l.count) c.layer-count.ensures.layer in
    let entries : n ≡ length s.list = ap length c.list.ensures.list in
    let place : c.len.result ≡ length code = c.len.ensures ∙ c.args.steps.now.ok.0 in
    let some : 0 < s.trigger.count / length s.list = let e : k / n ≡ s.trigger.count / length s.list = cc in omega (arith, e, c.if-rounds-eq0.false) in
    let body = steps_of (passes s 0 n) in
    let rest = steps_of (passes s 0 (k % n)) in
    let body_is : body ≡ steps_of (passes s 0 (length s.list)) = cc in
    let rest_is : rest ≡ steps_of (passes s 0 (s.trigger.count % length s.list)) = cc in
    let looped = looped_is s (length code) body rest some body_is rest_is in
    let same : step.Set most_arm_layers (k / n) ∷ (body ++ (step.Loop most_arm_layers (c.len.result + 1) ∷ rest))
    ≡ step.Set most_arm_layers (s.trigger.count / length s.list) ∷ (body ++ (step.Loop most_arm_layers (length code + 1) ∷ rest)) = cc in
    on_ok_weaker c.put_passes-3.result
    (λ e. four_more code c.push.new.steps.items c.put_passes-2.new.steps.items c.push-2.new.steps.items c.put_passes-3.new.steps.items
    (step.Set most_arm_layers (k / n) ∷ []) body (step.Loop most_arm_layers (c.len.result + 1) ∷ []) rest
    c.in_ok-push.ensures.items c.in_ok-put_passes.ensures c.in_ok-push-2.ensures.items e
    ∙ ap (λ (l : List Step). code ++ l) (same ∙ looped))
    c.put_passes-3.ensures
