use Rattle.std.proofs.Common.{◌+◌, ◌∙◌, ap, sym, arith, length, take, [], ◌∷◌, ◌++◌}
use Rattle.std.proofs.lemmas.List.{take_all, take_more}
use Rattle.sw_cage.specs.Cage.{cage_layout}
use Rattle.sw_cage.proofs.CardLemmas.{seen_is}
use Rattle.sw_cage.proofs.KeptLemmas.{all_contents, next_bay}
use Rattle.sw_cage.proofs.cage.Cage.has_layout.Goals as goal

pub returns-then-bays-ne-SLOT_PLACES : goal.returns-then-bays-ne-SLOT_PLACES
returns-then-bays-ne-SLOT_PLACES g c = (
  λ t. absurd (cc),
  λ e. absurd (omega (
    arith,
    c.if-bays-ne-SLOT_PLACES.true,
    ap length c.slots-bays.ensures,
    ap length e,
    all_contents _ c.args.self.now.seen c.self.invariant.good.held (seen_is c.self.view_is),
  )),
)

pub loop-before-preserved : goal.loop-before-preserved
loop-before-preserved g c = next_bay (cage_layout c.args.self.now.seen) c.loop-before.before (take c.loop-before.before c.slots-bays.result.now)
    (take (c.loop-before.before + 1) c.slots-bays.result.now) c.index-bays-before.result
    (all_contents _ c.args.self.now.seen c.self.invariant.good.held (seen_is c.self.view_is)) (omega arith) c.loop-before.invariant (c.has_contents.ensures.0
    (cc))
    (take_more c.slots-bays.result.now c.loop-before.before c.index-bays-before.result (omega (arith, c.if-bays-ne-SLOT_PLACES.false)) ∙ ap
    (λ y. take c.loop-before.before c.slots-bays.result.now ++ y ∷ []) (sym c.index-bays-before.is))

pub returns : goal.returns
returns g c = (
  λ t. sym c.slots-bays.ensures ∙ sym (take_all c.loop-before.before c.slots-bays.result.now (omega (arith, c.if-bays-ne-SLOT_PLACES.false))) ∙
      c.loop-before.invariant
      ∙ take_all c.loop-before.before (cage_layout c.args.self.now.seen)
      (omega (arith, c.loop-before-test.false, all_contents _ c.args.self.now.seen c.self.invariant.good.held (seen_is c.self.view_is))),
  λ e. cc,
)
