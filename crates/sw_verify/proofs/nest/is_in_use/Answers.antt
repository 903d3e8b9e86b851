use Rattle.std.proofs.Common.{◌||◌, Bool, List, ap, sym, ◌∙◌}
use Rattle.sw_verify.specs.declared.nest.Frame.{Frame}
use Rattle.sw_verify.specs.Nest.{in_use}
use Rattle.sw_verify.proofs.Nesting.{in_use_parts}
use Rattle.sw_verify.proofs.nest.is_in_use.Goals as goal

pub returns-then-has_counter : goal.returns-then-has_counter
returns-then-has_counter c =
    let k = c.args.counter in
    let few = c.parts.result.0.now in
    let more = c.parts.result.1.now in
    c.if-has_counter.true
    ∙ ap (λ (b : Bool). b || in_use more k) (sym c.if-has_counter.true ∙ c.has_counter.ensures)
    ∙ sym (in_use_parts few more k)
    ∙ ap (λ (l : List Frame). in_use l k) c.parts.ensures

pub returns-else-has_counter : goal.returns-else-has_counter
returns-else-has_counter c =
    let k = c.args.counter in
    let few = c.parts.result.0.now in
    let more = c.parts.result.1.now in
    c.has_counter-else-has_counter.ensures
    ∙ ap (λ (b : Bool). b || in_use more k) (sym c.if-has_counter.false ∙ c.has_counter.ensures)
    ∙ sym (in_use_parts few more k)
    ∙ ap (λ (l : List Frame). in_use l k) c.parts.ensures
