use Rattle.std.proofs.Common.{refl, arith}
use Rattle.sw_base.specs.Number.{value_of}
use Rattle.sw_base.proofs.Values.{two_runs, one_more, value_after-append, value_after-ge, some_from, none_from}
use Rattle.sw_base.proofs.number.nearest.Goals as goal

pub returns-in_err-append-clause-none : goal.returns-in_err-append-clause-none
returns-in_err-append-clause-none c =
    rw c.from_residual.ensures (omega (
      arith,
      c.in_err-append.ensures.none,
      value_after-append 0 c.args.first.now c.args.second.now,
      value_after-ge (value_of c.args.first.now) c.args.second.now,
    ))

pub returns-in_err-append-2-clause-none : goal.returns-in_err-append-2-clause-none
returns-in_err-append-2-clause-none c =
    let value = two_runs _ _ c.args.first.now c.args.second.now c.in_ok-append.ensures.some refl in
    rw c.from_residual-in_err-append-2.ensures (omega (arith, value, c.in_err-append-2.ensures.none))

pub returns-clause-some : goal.returns-clause-some
returns-clause-some c =
    let value = two_runs _ _ c.args.first.now c.args.second.now c.in_ok-append.ensures.some c.in_ok-append-2.ensures.some in
    some_from _ _ _ _ c.checked_add.ensures (rw (value, c.from.ensures, one_more) refl)

pub returns-clause-none : goal.returns-clause-none
returns-clause-none c =
    let value = two_runs _ _ c.args.first.now c.args.second.now c.in_ok-append.ensures.some c.in_ok-append-2.ensures.some in
    none_from _ _ _ _ c.checked_add.ensures (rw (value, c.from.ensures, one_more) refl)
