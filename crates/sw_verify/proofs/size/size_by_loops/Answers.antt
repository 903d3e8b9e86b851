use Rattle.std.proofs.Common.{arith}
use Rattle.std.proofs.lemmas.List.{drop_more}
use Rattle.sw_verify.proofs.SizedLemmas.{too_many_steps, too_many_turns}
use Rattle.sw_verify.proofs.size.size_by_loops.Goals as goal

pub returns-in-None-clause-many : goal.returns-in-None-clause-many
returns-in-None-clause-many c =
    too_many_turns c.args.steps.now _ c.loop-i.i c.loop-i.here c.loop-i.opened _ (drop_more c.args.steps.now c.loop-i.i _ (omega (arith, c.loop-i-test.true)))
    c.loop-i.invariant.size c.loop-i.invariant.closes c.loop-i.invariant.done c.in-Loop.field-0 c.in-Loop.field-1 c.in-Some.loop_here c.pop.new.self
    c.in-Loop.is c.in-Some.ensures.some c.in-None.ensures.many

pub returns-then-here : goal.returns-then-here
returns-then-here c = record {
  size = tt;
  few = tt;
  many = too_many_steps c.args.steps.now _ c.loop-i.i c.loop-i.here c.loop-i.opened _ (drop_more c.args.steps.now c.loop-i.i _
      (omega (arith, c.loop-i-test.true))) c.loop-i.invariant.size c.loop-i.invariant.closes c.loop-i.invariant.done c.if-here.true c.in_default.not-Set
      c.in_default.not-Loop c.in_default.not-Halt;
}
