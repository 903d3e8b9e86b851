use Rattle.std.proofs.Common.{◌≡◌, refl, sym, subst, true}
use Rattle.sw_base.specs.Layout.{has_meter}
use Rattle.sw_cage.specs.Accounts.{accounts_of, layout_of}
use Rattle.sw_cage.specs.Cage.{ScanSeen}
use Rattle.sw_cage.specs.Advance.{moves_from, next_place}
use Rattle.sw_cage.specs.Outcome.{IsSafeAfterFault}
use Rattle.sw_cage.proofs.MoveLemmas.{meter_there, fallen}
use Rattle.sw_cage.proofs.CardLemmas.{keeps_since}
use Rattle.sw_cage.proofs.scan.machine.go_on.Goals as goal

pub make_moves-requires : goal.make_moves-requires
make_moves-requires g c = (c.requires.may c.in-Some.at c.in-Some.is).moves

pub arrive-requires-clause-meter : goal.arrive-requires-clause-meter
arrive-requires-clause-meter g c = λ at is.
    let from = c.in-Some.at in
    let mid = accounts_of c.make_moves.new.slots in
    let e : next_place from.course from.index ≡ at = cc (c.in-Ok.ensures.there, is) in
    subst (λ (x : ScanSeen). has_meter (layout_of mid) x.course.meter ≡ true) e
    (meter_there (accounts_of c.args.slots.now) mid (moves_from from.course from.index) from.course.meter c.in-Ok.ensures.ok
    (c.requires.may from c.in-Some.is).meter)

pub returns-in-Ok-clause-meters : goal.returns-in-Ok-clause-meters
returns-in-Ok-clause-meters g c = keeps_since c.args.slots.now c.make_moves.new.slots c.arrive.result c.arrive.new.slots c.make_moves.ensures.meters
    c.arrive.ensures.meters

pub returns-in-Err-clause-goes : goal.returns-in-Err-clause-goes
returns-in-Err-clause-goes g c = λ at is. record {
  fallen = subst (IsSafeAfterFault (accounts_of c.args.slots.now)) (sym c.open_all.ensures.open) (fallen (accounts_of c.args.slots.now) (accounts_of
      c.make_moves.new.slots) c.in-Err.ensures.err);
  out = refl;
  over = refl;
}
