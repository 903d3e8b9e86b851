use Rattle.std.proofs.Common.{arith}
use Rattle.sw_card.proofs.Bits.{taken_same, taken_other, taken_fits}
use Rattle.sw_card.proofs.mask.Mask.remove.Goals as goal

pub invariant_of-self : goal.invariant_of-self
invariant_of-self c = taken_fits c.self.inside.bits c.args.ch c.self.invariant

pub returns-clause-here : goal.returns-clause-here
returns-clause-here c = taken_same c.self.inside.bits c.args.ch c.requires.0 (omega (arith, c.requires.1))

pub returns-clause-others : goal.returns-clause-others
returns-clause-others c =
    let few = c.requires.1 in
    λ k other. rw (← c.self.view_is) (taken_other c.self.inside.bits c.args.ch k c.self.invariant c.requires.0 (omega (arith, few)) other)
