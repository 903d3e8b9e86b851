use Rattle.std.proofs.Common.{◌*◌, ◌+◌, ◌^◌, ◌≤◌, arith}
use Rattle.sw_base.proofs.Values.{not_below, value_at_le}
use Rattle.sw_base.proofs.number.append.Goals as goal

pub returns-in_err-checked_mul-clause-none : goal.returns-in_err-checked_mul-clause-none
returns-in_err-checked_mul-clause-none c =
    let big : 2 ^ 64 ≤ c.loop-digit.n * 10 = not_below _ _ c.in_err-checked_mul.ensures in
    rw c.from_residual.ensures (omega (
      arith,
      value_at_le c.loop-digit.n c.loop-digit.digit-index c.args.digits.now (omega arith),
      c.loop-digit.invariant.value,
    ))

pub returns-in_err-n-clause-none : goal.returns-in_err-n-clause-none
returns-in_err-n-clause-none c =
    let big : 2 ^ 64 ≤ c.in_ok-checked_mul.field-0 + c.from.result = not_below _ _ c.in_err-n.ensures in
    rw c.from_residual-in_err-n.ensures (omega (
      arith,
      c.in_ok-checked_mul.ensures,
      c.from.ensures,
      value_at_le c.loop-digit.n c.loop-digit.digit-index c.args.digits.now (omega arith),
      c.loop-digit.invariant.value,
    ))
