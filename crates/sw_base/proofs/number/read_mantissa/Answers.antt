use Rattle.std.proofs.Common.{◌≡◌, length, rules}
use Rattle.sw_base.proofs.Numerals.{no_mantissa}
use Rattle.sw_base.proofs.number.read_mantissa.Goals as goal

pub returns-then-is_empty-2-clause-none : goal.returns-then-is_empty-2-clause-none
returns-then-is_empty-2-clause-none c =
    let whole : length c.digits.result.0.now ≡ 0 = search rules in
    let fraction : length c.fraction.result.0.now ≡ 0 = search rules in
    no_mantissa _ _ _ _ _ (rw c.sign-negative.ensures.rest at c.digits.ensures) c.fraction.ensures whole fraction
