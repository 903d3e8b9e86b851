use Rattle.std.proofs.Common.{arith, ◌∙◌, sym, min, length, ◌≡◌, refl, subst}
use Rattle.sw_card.specs.Mask.{IsMaskOf}
use Rattle.sw_card.proofs.Masks.{mask_more, mask_past, take_least}
use Rattle.sw_card.proofs.relay.RelayCard.closed_mask.Goals as goal
use Rattle.sw_card.proofs.relay.RelayCard.closed_mask.Goals.{then-is_closed, else-is_closed}

pub loop-before-preserved : goal.loop-before-preserved
loop-before-preserved g c =
    let closed = c.args.self.now.1.closed in
    let n = c.loop-before.before in
    let before = c.loop-before.invariant in
    elim c.if-is_closed.branch [
      | then-is_closed w ↦
          let here = w.insert.ensures.here ∙ sym w.if-is_closed.true ∙ c.is_closed.ensures in
          rw w.mask-is (mask_more closed n c.loop-before.mask w.insert.new.self before here w.insert.ensures.others)
      | else-is_closed w ↦
          let here = mask_past closed n c.loop-before.mask before ∙ sym w.if-is_closed.false ∙ c.is_closed.ensures in
          rw w.mask-is (mask_more closed n c.loop-before.mask c.loop-before.mask before here (λ ch h. refl))
    ]

pub returns : goal.returns
returns g c =
    let closed = c.args.self.now.1.closed in
    let m = c.min-before-end.ensures in
    let l = c.channels.ensures.closed in
    let low = c.loop-before-test.false in
    let high = c.loop-before.auto.before-end in
    let e : c.loop-before.before ≡ min (length closed) 99 = omega (arith, m, l, low, high) in
    subst (λ front. IsMaskOf c.loop-before.mask front) (take_least closed c.loop-before.before 99 e) c.loop-before.invariant
