use Rattle.std.proofs.Common.{◌+◌, sym, ◌∙◌, subst, take, false, ap}
use Rattle.sw_cage.specs.Accounts.{accounts_of}
use Rattle.sw_cage.specs.Cards.{KeepsOthers, meters_of}
use Rattle.sw_cage.specs.Change.{Sets}
use Rattle.sw_cage.proofs.ChannelCallLemmas.{sets_more, sets_same, disturbed_more}
use Rattle.sw_cage.proofs.CardLemmas.{keeps_next}
use Rattle.sw_cage.proofs.OneSlotLemmas.{on_err}
use Rattle.sw_cage.proofs.slots.Slots.open_listed.Goals.{then-is_closed+in_ok-open, else-is_closed}
use Rattle.sw_cage.proofs.slots.Slots.open_listed.Goals as goal

pub returns-in_err-open-clause-err : goal.returns-in_err-open-clause-err
returns-in_err-open-clause-err g c = on_err c.from_residual.result
    (disturbed_more (accounts_of c.args.self.now) (accounts_of c.loop-chan.self) (accounts_of c.open.new.self) c.args.chans.now c.loop-chan.chan-index
    c.chan-item.result c.chan-item.result false
    c.loop-chan-test.true c.chan-item.is c.loop-chan.invariant.sets c.in_err-open.ensures.disturbed)

pub loop-chan-preserved : goal.loop-chan-preserved
loop-chan-preserved g c = record {
  sets = elim c.if-is_closed.branch [
    | then-is_closed+in_ok-open w ↦ subst (Sets (accounts_of c.args.self.now) (take (c.loop-chan.chan-index + 1) c.args.chans.now) false) (ap accounts_of (sym
        w.self-is))
        (sets_more (accounts_of c.args.self.now) (accounts_of c.loop-chan.self) (accounts_of w.open.new.self) c.args.chans.now c.loop-chan.chan-index
        c.chan-item.result c.chan-item.result false
        c.loop-chan-test.true c.chan-item.is c.loop-chan.invariant.sets w.in_ok-open.ensures.ok)
    | else-is_closed w ↦ subst (Sets (accounts_of c.args.self.now) (take (c.loop-chan.chan-index + 1) c.args.chans.now) false) (ap accounts_of (sym w.self-is))
        (sets_more (accounts_of c.args.self.now) (accounts_of c.loop-chan.self) (accounts_of c.loop-chan.self) c.args.chans.now c.loop-chan.chan-index
        c.chan-item.result c.chan-item.result false
        c.loop-chan-test.true c.chan-item.is c.loop-chan.invariant.sets (sets_same (accounts_of c.loop-chan.self) c.chan-item.result false
        (sym c.is_closed.ensures ∙ w.if-is_closed.false)))
  ];
  others = elim c.if-is_closed.branch [
    | then-is_closed+in_ok-open w ↦ subst (KeepsOthers c.args.self.now c.args.chans.now) (sym w.self-is)
        (keeps_next c.args.self.now c.loop-chan.self w.open.new.self c.args.chans.now c.loop-chan.chan-index c.chan-item.result c.loop-chan-test.true
        c.chan-item.is c.loop-chan.invariant.others w.open.ensures.elsewhere)
    | else-is_closed w ↦ subst (KeepsOthers c.args.self.now c.args.chans.now) (sym w.self-is) c.loop-chan.invariant.others
  ];
  meters = elim c.if-is_closed.branch [
    | then-is_closed+in_ok-open w ↦ ap meters_of w.self-is ∙ w.open.ensures.meters ∙ c.loop-chan.invariant.meters
    | else-is_closed w ↦ ap meters_of w.self-is ∙ c.loop-chan.invariant.meters
  ];
}

pub returns-in_err-open-clause-meters : goal.returns-in_err-open-clause-meters
returns-in_err-open-clause-meters g c = c.open.ensures.meters ∙ c.loop-chan.invariant.meters

pub returns-clause-meters : goal.returns-clause-meters
returns-clause-meters g c = c.loop-chan.invariant.meters

pub returns-in_err-open-clause-others : goal.returns-in_err-open-clause-others
returns-in_err-open-clause-others g c = keeps_next c.args.self.now c.loop-chan.self c.open.new.self c.args.chans.now c.loop-chan.chan-index c.chan-item.result
    c.loop-chan-test.true c.chan-item.is c.loop-chan.invariant.others c.open.ensures.elsewhere

pub returns-clause-others : goal.returns-clause-others
returns-clause-others g c = c.loop-chan.invariant.others
