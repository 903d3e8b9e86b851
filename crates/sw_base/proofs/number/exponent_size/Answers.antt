use Rattle.std.proofs.Common.{arith}
use Rattle.sw_base.proofs.Values.{value_at_le}
use Rattle.sw_base.proofs.number.exponent_size.Goals as goal

pub returns-then-n-gt-LARGEST_EXPONENT-clause-none : goal.returns-then-n-gt-LARGEST_EXPONENT-clause-none
returns-then-n-gt-LARGEST_EXPONENT-clause-none c =
    omega (arith, c.from.ensures, value_at_le c.loop-digit.n c.loop-digit.digit-index c.args.digits.now (omega arith), c.loop-digit.invariant.value)
