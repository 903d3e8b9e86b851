use Rattle.std.proofs.Common.{arith, ◌<◌, ◌∙◌, sym}
use Rattle.std.proofs.lemmas.Grind.{common_steps}
use Rattle.sw_card.proofs.Bits.{in_beyond, in_none}
use Rattle.sw_card.proofs.mask.Mask.has.Goals as goal
use Rattle.sw_card.proofs.mask.Mask.has.Goals.{then-ch-ge1, else-ch-ge1}

pub returns-else-from-le-BITS : goal.returns-else-from-le-BITS
returns-else-from-le-BITS c = elim c.if-ch-ge1.branch [
  | then-ch-ge1 w ↦
      let h = c.if-from-le-BITS.false in
      let v = w.value-is in
      let e = w.from.ensures in
      let past : 128 < c.args.ch = grind (arith, common_steps, h, v, e) in
      h ∙ sym (rw (← c.self.view_is) (in_beyond c.self.inside.bits c.args.ch c.self.invariant past))
  | else-ch-ge1 w ↦ c.if-from-le-BITS.false ∙ sym (in_none c.args.self c.args.ch w.if-ch-ge1.false)
]
