use Rattle.std.proofs.Common.{arith}
use Rattle.sw_card.proofs.Bits.{put_same, put_other, put_fits}
use Rattle.sw_card.proofs.mask.Mask.insert.Goals as goal

pub invariant_of-self : goal.invariant_of-self
invariant_of-self c = put_fits c.self.inside.bits c.args.ch c.self.invariant

pub returns-clause-here : goal.returns-clause-here
returns-clause-here c = put_same c.self.inside.bits c.args.ch c.requires.0 (omega (arith, c.requires.1))

pub returns-clause-others : goal.returns-clause-others
returns-clause-others c = λ k other. rw (← c.self.view_is) (put_other c.self.inside.bits c.args.ch k c.requires.0 (omega (arith, c.requires.1)) other)
