use Rattle.std.proofs.Common.{arith}
use Rattle.std.proofs.lemmas.Grind.{common_steps}
use Rattle.sw_card.proofs.Bits.{lowest_in, lowest_below}
use Rattle.sw_card.proofs.mask.Mask.lowest.Goals as goal

pub returns-clause-here : goal.returns-clause-here
returns-clause-here c = let h = c.if-self-eq0.false in rw (← c.self.view_is) (lowest_in c.self.inside.bits c.self.invariant (grind (arith, common_steps, h)))

pub returns-clause-lowest : goal.returns-clause-lowest
returns-clause-lowest c =
    let h = c.if-self-eq0.false in
    λ k below. rw (← c.self.view_is) (lowest_below c.self.inside.bits k c.self.invariant (grind (arith, common_steps, h)) below)
