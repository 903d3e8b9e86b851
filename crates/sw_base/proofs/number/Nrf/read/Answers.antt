use Rattle.std.proofs.Common.{◌≡◌, ◌<◌, ◌≤◌, ◌∙◌, ap, refl, arith}
use Rattle.std.specs.Prelude.{unsigned_abs}
use Rattle.sw_base.specs.Number.{value_of, with_sign, IsEnded}
use Rattle.sw_base.proofs.Numerals.{number_is, not_ended, size-with_sign, cast_back}
use Rattle.sw_base.proofs.number.Nrf.read.Goals as goal

pub returns-in_default-clause-refused : goal.returns-in_default-clause-refused
returns-in_default-clause-refused c n rest h = c.in_default.ensures.none n h.after h.mantissa

pub returns-then-not-is_ended-clause-refused : goal.returns-then-not-is_ended-clause-refused
returns-then-not-is_ended-clause-refused c =
    let none : IsEnded c.tail-negative.result.2.now → ⊥ = λ h. let on = c.if-not-is_ended.ensures.1 h in cc in
    not_ended _ _ _ _ _ c.in-Some.ensures.found.0 c.tail-negative.ensures.tail none

pub returns-then-significant-gt-MOST_DIGITS-clause-refused :
    goal.returns-then-significant-gt-MOST_DIGITS-clause-refused
returns-then-significant-gt-MOST_DIGITS-clause-refused c =
    let on : IsEnded c.tail-negative.result.2.now = c.if-not-is_ended.ensures.0 refl in
    (_, _, number_is _ _ _ _ _ c.in-Some.ensures.found.0 c.tail-negative.ensures.tail on, omega arith)

pub returns-in_default-exponent_size-clause-refused :
    goal.returns-in_default-exponent_size-clause-refused
returns-in_default-exponent_size-clause-refused c =
    let on : IsEnded c.tail-negative.result.2.now = c.if-not-is_ended.ensures.0 refl in
    let size : 32000 < unsigned_abs (with_sign c.tail-negative.result.0 (value_of c.tail-negative.result.1.now)) =
    omega (arith, c.in_default-exponent_size.ensures.none, size-with_sign c.tail-negative.result.0 (value_of c.tail-negative.result.1.now)) in
    (_, _, number_is _ _ _ _ _ c.in-Some.ensures.found.0 c.tail-negative.ensures.tail on, omega arith, size)

pub returns-clause-number : goal.returns-clause-number
returns-clause-number c =
    let on : IsEnded c.tail-negative.result.2.now = c.if-not-is_ended.ensures.0 refl in
    let value : c.from.result ≡ value_of c.tail-negative.result.1.now = omega (arith, c.from.ensures, c.in-Some-exponent_size.ensures.some.0) in
    let signed : c.with_sign.result ≡ with_sign c.tail-negative.result.0 (value_of c.tail-negative.result.1.now) = c.with_sign.ensures.value
    ∙ ap (with_sign c.tail-negative.result.0) value in
    let small : unsigned_abs c.with_sign.result ≤ 32000 =
    omega (
      arith,
      ap unsigned_abs signed,
      size-with_sign c.tail-negative.result.0 (value_of c.tail-negative.result.1.now),
      value,
      c.from.ensures,
      c.in-Some-exponent_size.ensures.some.1,
    ) in
    let is = number_is _ _ _ _ _ c.in-Some.ensures.found.0 c.tail-negative.ensures.tail on in
    rw (cast_back c.with_sign.result small, signed) (rw (← c.number.view_is) at is)
