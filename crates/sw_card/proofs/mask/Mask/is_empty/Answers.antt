use Rattle.std.proofs.Common.{arith, ◌+◌}
use Rattle.std.proofs.lemmas.Grind.{common_steps}
use mir.Syntax.{w128}
use Rattle.std.specs.Int.{trailing_zeros}
use Rattle.sw_card.proofs.Bits.{lowest_in}
use Rattle.sw_card.proofs.mask.Mask.is_empty.Goals as goal

pub returns-clause-some : goal.returns-clause-some
returns-clause-some c = λ h. (
  trailing_zeros w128 c.self.inside.bits + 1,
  rw (← c.self.view_is) (lowest_in c.self.inside.bits c.self.invariant (grind (arith, common_steps, h))),
)
