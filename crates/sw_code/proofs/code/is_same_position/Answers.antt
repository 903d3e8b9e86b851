use Rattle.std.proofs.Common.{sym, ◌∙◌}
use Rattle.sw_trigger.proofs.Same.{position_decides}
use Rattle.sw_code.proofs.code.is_same_position.Goals as goal

pub returns : goal.returns
returns c =
    let d = position_decides c.args.a.now c.args.b.now in
    (λ t. d.0 (sym c.eq.ensures ∙ t), λ e. c.eq.ensures ∙ d.1 e)
