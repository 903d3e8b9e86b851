use Rattle.std.proofs.Common.{true, ◌+◌, drop, length, slice_index_or, subst, ap, ◌∙◌, arith}
use Rattle.sw_channel.specs.Positions.{Position}
use Rattle.sw_verify.specs.Sound.{CanCloseEach}
use Rattle.sw_cage.specs.Accounts.{accounts_of, is_closed, layout_of, with_chan}
use Rattle.sw_cage.proofs.MoveLemmas.{ClosesOn, closes_next, next_left, broken_since, when_err, broken_call}
use Rattle.sw_cage.proofs.scan.machine.close_each.Goals as goal

pub returns-in_err-close-clause-err : goal.returns-in_err-close-clause-err
returns-in_err-close-clause-err g c =
    let p = c.args.position.now in
    let i = c.loop-chan.chan-index in
    let chan = c.chan-item.result in
    let chans = c.as_slice-chan-items.ensures.chans in
    let old = accounts_of c.loop-chan.slots in
    let left = next_left p i chan (omega (arith, c.loop-chan-test.true, ap length chans))
    (c.chan-item.is ∙ ap (λ (l : Position). slice_index_or l i chan) chans) in
    let can = subst (CanCloseEach (layout_of old) (is_closed old)) left c.loop-chan.invariant.goes.can in
    when_err c.from_residual.result _ (broken_since (accounts_of c.args.slots.now) old (accounts_of c.close.new.self) c.loop-chan.invariant.goes.same
    (broken_call old (with_chan old chan true) (accounts_of c.close.new.self) chan can.0.present
    c.in_err-close.ensures.err c.in_err-close.ensures.disturbed))

pub loop-chan-preserved : goal.loop-chan-preserved
loop-chan-preserved g c =
    let p = c.args.position.now in
    let i = c.loop-chan.chan-index in
    let chan = c.chan-item.result in
    let chans = c.as_slice-chan-items.ensures.chans in
    let left = next_left p i chan (omega (arith, c.loop-chan-test.true, ap length chans))
    (c.chan-item.is ∙ ap (λ (l : Position). slice_index_or l i chan) chans) in record {
      goes = closes_next (accounts_of c.args.slots.now) (accounts_of c.loop-chan.slots) (accounts_of c.close.new.self) p (drop (i + 1) p) chan
          (subst (λ (rest : Position). ClosesOn (accounts_of c.args.slots.now) p rest (accounts_of c.loop-chan.slots)) left c.loop-chan.invariant.goes)
          c.in_ok-close.ensures.ok;
      meters = c.close.ensures.meters ∙ c.loop-chan.invariant.meters;
    }

pub returns-in_err-close-clause-meters : goal.returns-in_err-close-clause-meters
returns-in_err-close-clause-meters g c = c.close.ensures.meters ∙ c.loop-chan.invariant.meters

pub returns-clause-meters : goal.returns-clause-meters
returns-clause-meters g c = c.loop-chan.invariant.meters
