use Rattle.std.proofs.Common.{◌+◌, drop, length, slice_index_or, subst, ap, ◌∙◌, arith}
use Rattle.sw_channel.specs.Positions.{Position}
use Rattle.sw_verify.specs.Sound.{CanOpenEach}
use Rattle.sw_cage.specs.Accounts.{accounts_of, is_closed}
use Rattle.sw_cage.proofs.MoveLemmas.{OpensOn, opens_next, next_left, broken_since, when_err, broken_call}
use Rattle.sw_cage.proofs.scan.machine.open_each.Goals as goal

pub returns-in_err-open-clause-err : goal.returns-in_err-open-clause-err
returns-in_err-open-clause-err g c =
    let p = c.args.position.now in
    let i = c.loop-chan.chan-index in
    let chan = c.chan-item.result in
    let chans = c.as_slice-chan-items.ensures.chans in
    let old = accounts_of c.loop-chan.slots in
    let left = next_left p i chan (omega (arith, c.loop-chan-test.true, ap length chans))
    (c.chan-item.is ∙ ap (λ (l : Position). slice_index_or l i chan) chans) in
    let can = subst (CanOpenEach (is_closed old)) left c.loop-chan.invariant.goes.can in
    when_err c.from_residual.result _ (broken_since (accounts_of c.args.slots.now) old (accounts_of c.open.new.self) c.loop-chan.invariant.goes.same
    (broken_call old old (accounts_of c.open.new.self) chan (c.stay_safe.ensures.safe.exclusive.present chan can.0)
    c.in_err-open.ensures.err c.in_err-open.ensures.disturbed))

pub loop-chan-preserved : goal.loop-chan-preserved
loop-chan-preserved g c =
    let p = c.args.position.now in
    let i = c.loop-chan.chan-index in
    let chan = c.chan-item.result in
    let chans = c.as_slice-chan-items.ensures.chans in
    let left = next_left p i chan (omega (arith, c.loop-chan-test.true, ap length chans))
    (c.chan-item.is ∙ ap (λ (l : Position). slice_index_or l i chan) chans) in record {
      goes = opens_next (accounts_of c.args.slots.now) (accounts_of c.loop-chan.slots) (accounts_of c.open.new.self) p (drop (i + 1) p) chan
          (subst (λ (rest : Position). OpensOn (accounts_of c.args.slots.now) p rest (accounts_of c.loop-chan.slots)) left c.loop-chan.invariant.goes)
          c.in_ok-open.ensures.ok;
      meters = c.open.ensures.meters ∙ c.loop-chan.invariant.meters;
    }

pub returns-in_err-open-clause-meters : goal.returns-in_err-open-clause-meters
returns-in_err-open-clause-meters g c = c.open.ensures.meters ∙ c.loop-chan.invariant.meters

pub returns-clause-meters : goal.returns-clause-meters
returns-clause-meters g c = c.loop-chan.invariant.meters
