use Rattle.std.proofs.Common.{◌*◌, ◌-◌, ◌^◌, ◌≤◌, ◌++◌, length, refl, arith}
use Rattle.sw_base.specs.Number.{value_of}
use Rattle.sw_base.proofs.Values.{two_runs, value_after-append, value_after-ge}
use Rattle.sw_base.proofs.Rounding.{right_near, right_far, at_least}
use Rattle.sw_base.proofs.number.moved_right.Goals as goal

pub returns-in_err-append-clause-none : goal.returns-in_err-append-clause-none
returns-in_err-append-clause-none c =
    let w = c.args.whole.now in let f = c.args.fraction.now in
    let all : value_of (w ++ f) ≤ value_of (w ++ f) * 10 ^ (c.args.places - length f) = at_least (value_of (w ++ f)) (c.args.places - length f) in
    rw (
      c.from_residual.ensures,
      right_far (value_of (w ++ f)) c.args.places (length f) (omega arith),
    ) (omega (
      arith,
      all,
      c.in_err-append.ensures.none,
      value_after-append 0 w f,
      value_after-ge (value_of w) f,
    ))

pub returns-in_err-n-clause-none : goal.returns-in_err-n-clause-none
returns-in_err-n-clause-none c =
    let w = c.args.whole.now in let f = c.args.fraction.now in
    let all : value_of (w ++ f) ≤ value_of (w ++ f) * 10 ^ (c.args.places - length f) = at_least (value_of (w ++ f)) (c.args.places - length f) in
    let value = two_runs _ _ w f c.in_ok-append.ensures.some refl in
    rw (
      c.from_residual-in_err-n.ensures,
      right_far (value_of (w ++ f)) c.args.places (length f) (omega arith),
    ) (omega (arith, all, value, c.in_err-n.ensures.none))

pub returns-then-places-fraction-clause-some : goal.returns-then-places-fraction-clause-some
returns-then-places-fraction-clause-some c =
    rw (right_near c.args.whole.now c.args.fraction.now c.args.places (omega arith) c.requires.fraction) c.nearest.ensures.some

pub returns-then-places-fraction-clause-none : goal.returns-then-places-fraction-clause-none
returns-then-places-fraction-clause-none c =
    rw (right_near c.args.whole.now c.args.fraction.now c.args.places (omega arith) c.requires.fraction) c.nearest.ensures.none

pub returns-in_ok-n-clause-some : goal.returns-in_ok-n-clause-some
returns-in_ok-n-clause-some c =
    let value = two_runs _ _ c.args.whole.now c.args.fraction.now c.in_ok-append.ensures.some c.in_ok-n.ensures.some in
    rw (
      right_far (value_of (c.args.whole.now ++ c.args.fraction.now)) c.args.places (length c.args.fraction.now) (omega arith),
      ← value,
    ) c.with_zeros.ensures.some

pub returns-in_ok-n-clause-none : goal.returns-in_ok-n-clause-none
returns-in_ok-n-clause-none c =
    let value = two_runs _ _ c.args.whole.now c.args.fraction.now c.in_ok-append.ensures.some c.in_ok-n.ensures.some in
    rw (
      right_far (value_of (c.args.whole.now ++ c.args.fraction.now)) c.args.places (length c.args.fraction.now) (omega arith),
      ← value,
    ) c.with_zeros.ensures.none
