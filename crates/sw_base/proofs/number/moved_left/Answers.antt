use Rattle.std.proofs.Common.{◌-◌, length, sym, arith}
use Rattle.std.proofs.lemmas.List.{append-nil}
use Rattle.sw_base.proofs.Rounding.{left_near, left_far}
use Rattle.sw_base.proofs.number.moved_left.Goals as goal

pub returns-then-whole-places-clause-some : goal.returns-then-whole-places-clause-some
returns-then-whole-places-clause-some c =
    sym (left_far c.args.whole.now c.args.fraction.now c.args.places (omega arith) c.requires.whole c.requires.fraction)

pub returns-clause-some : goal.returns-clause-some
returns-clause-some c =
    rw (left_near c.args.whole.now c.args.fraction.now (length c.args.whole.now - c.args.places) c.args.places c.requires.places
    (omega arith) c.requires.whole c.requires.fraction) (rw (append-nil) at c.nearest.ensures.some)

pub returns-clause-none : goal.returns-clause-none
returns-clause-none c =
    rw (left_near c.args.whole.now c.args.fraction.now (length c.args.whole.now - c.args.places) c.args.places c.requires.places
    (omega arith) c.requires.whole c.requires.fraction) (rw (append-nil) at c.nearest.ensures.none)
