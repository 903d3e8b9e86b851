use Rattle.std.proofs.Common.{◌∙◌, arith}
use Rattle.std.proofs.lemmas.List.{take_all}
use Rattle.sw_cage.specs.Cage.{cage_layout}
use Rattle.sw_cage.proofs.CardLemmas.{seen_is}
use Rattle.sw_cage.proofs.KeptLemmas.{all_contents, next_bay}
use Rattle.sw_cage.proofs.cage.Cage.layout.Goals as goal

pub loop-before-preserved : goal.loop-before-preserved
loop-before-preserved g c = record {
  items = next_bay (cage_layout c.args.self.now.seen) c.loop-before.before c.loop-before.bays.items c.push_reserved.new.self.items
      c.in_ok-contents.field-0
      (all_contents _ c.args.self.now.seen c.self.invariant.good.held (seen_is c.self.view_is)) (omega arith) c.loop-before.invariant.items
      c.in_ok-contents.ensures
      c.push_reserved.ensures.items;
  count = omega (arith, c.push_reserved.ensures.len, c.loop-before.invariant.count);
  room = omega (arith, c.push_reserved.ensures.capacity, c.loop-before.invariant.room);
}

pub returns : goal.returns
returns g c = c.new.ensures ∙ c.loop-before.invariant.items ∙ take_all c.loop-before.before (cage_layout c.args.self.now.seen)
    (omega (arith, c.loop-before-test.false, all_contents _ c.args.self.now.seen c.self.invariant.good.held (seen_is c.self.view_is)))
