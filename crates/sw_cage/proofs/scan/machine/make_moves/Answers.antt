use Rattle.std.proofs.Common.{◌≡◌, ◌∙◌, ap, drop, Some, sym, subst}
use Rattle.sw_cage.specs.Accounts.{accounts_of}
use Rattle.sw_cage.specs.Cage.{ScanSeen}
use Rattle.sw_cage.specs.Steps.{next_move}
use Rattle.sw_cage.specs.declared.scan.steps.Move.{Move}
use Rattle.sw_cage.specs.declared.scan.steps.Move.TheVariants as move
use Rattle.sw_cage.proofs.MoveLemmas.{broken_since, when_err}
use Rattle.sw_cage.proofs.MovesLemmas.{MovesOn, moves_next}
use Rattle.sw_cage.proofs.scan.machine.make_moves.Goals as goal
use Rattle.sw_cage.proofs.scan.machine.make_moves.Goals.{in-Open+in_ok-open_each-in-Open, in-Close+in_ok-close_each-in-Close}

pub returns-in_err-open_each-in-Open-clause-err : goal.returns-in_err-open_each-in-Open-clause-err
returns-in_err-open_each-in-Open-clause-err g c =
    when_err c.from_residual.result _
    (broken_since (accounts_of c.args.slots.now) (accounts_of c.loop-next.slots) (accounts_of c.open_each.new.slots) c.loop-next.invariant.goes.same
    c.in_err-open_each-in-Open.ensures.err)

pub returns-in_err-close_each-in-Close-clause-err : goal.returns-in_err-close_each-in-Close-clause-err
returns-in_err-close_each-in-Close-clause-err g c =
    when_err c.from_residual-in_err-close_each-in-Close.result _
    (broken_since (accounts_of c.args.slots.now) (accounts_of c.loop-next.slots) (accounts_of c.close_each.new.slots) c.loop-next.invariant.goes.same
    c.in_err-close_each-in-Close.ensures.err)

pub loop-next-preserved : goal.loop-next-preserved
loop-next-preserved g c =
    let old = accounts_of c.args.slots.now in
    let now = accounts_of c.loop-next.slots in
    let at = c.loop-next.scan in
    let is : next_move (drop at.index at.course.items) ≡ Some c.in-Some.next = sym c.next_move.ensures ∙ c.in-Some.is in
    elim c.match-next.branch [
      | in-Open+in_ok-open_each-in-Open w ↦
          let new = accounts_of w.open_each.new.slots in
          let told = is ∙ ap (λ (m : Move). Some m) w.in-Open.is in
          rw w.slots-is (record {
            goes = subst (λ (x : ScanSeen). MovesOn old c.args.scan.now new x) (sym c.go_past.ensures)
                (moves_next old c.args.scan.now now at (move.Open w.in-Open.position) told c.loop-next.invariant.goes new w.in_ok-open_each-in-Open.ensures.ok);
            meters = w.open_each.ensures.meters ∙ c.loop-next.invariant.meters;
          })
      | in-Close+in_ok-close_each-in-Close w ↦
          let new = accounts_of w.close_each.new.slots in
          let told = is ∙ ap (λ (m : Move). Some m) w.in-Close.is in
          rw w.slots-is (record {
            goes = subst (λ (x : ScanSeen). MovesOn old c.args.scan.now new x) (sym c.go_past.ensures)
                (moves_next old c.args.scan.now now at (move.Close w.in-Close.position) told c.loop-next.invariant.goes new w.in_ok-close_each-in-Close.ensures.ok);
            meters = w.close_each.ensures.meters ∙ c.loop-next.invariant.meters;
          })
    ]
