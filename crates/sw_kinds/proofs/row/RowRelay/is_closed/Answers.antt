use Rattle.std.proofs.Common.{◌<◌, sym, ◌∙◌, arith}
use Rattle.std.proofs.lemmas.Grind.{common_steps}
use Rattle.sw_card.proofs.Masks.{closed_states, closed_states_past}
use Rattle.sw_kinds.proofs.row.RowRelay.is_closed.Goals as goal

pub returns-then-ch-self : goal.returns-then-ch-self
returns-then-ch-self g c =
    rw (← c.self.view_is) (c.has.ensures ∙ sym (closed_states c.self.inside.closed c.self.inside.channels c.args.ch c.if-ch-self.true))

pub returns-else-ch-self : goal.returns-else-ch-self
returns-else-ch-self g c =
    let past : c.self.inside.channels < c.args.ch = c.if-ch-self.false in
    let off = closed_states_past c.self.inside.closed c.self.inside.channels c.args.ch past in
    rw (← c.self.view_is, off) (grind (arith, common_steps, past))
