use Rattle.std.proofs.Common.{◌+◌, sym, ◌∙◌, subst, take, true, ap}
use Rattle.sw_cage.specs.Accounts.{accounts_of}
use Rattle.sw_cage.specs.Cards.{KeepsOthers, meters_of}
use Rattle.sw_cage.specs.Change.{Sets}
use Rattle.sw_cage.proofs.ChannelCallLemmas.{sets_more, sets_same, disturbed_more}
use Rattle.sw_cage.proofs.CardLemmas.{keeps_next}
use Rattle.sw_cage.proofs.OneSlotLemmas.{on_err, next_present, next_apart}
use Rattle.sw_cage.proofs.slots.Slots.close_listed.Goals.{then-not-is_closed+in_ok-close, else-not-is_closed}
use Rattle.sw_cage.proofs.slots.Slots.close_listed.Goals as goal

pub close-requires-clause-present : goal.close-requires-clause-present
close-requires-clause-present g c = next_present (accounts_of c.args.self.now) (accounts_of c.loop-chan.self) c.args.chans.now c.loop-chan.chan-index
    c.chan-item.result
    c.loop-chan-test.true c.chan-item.is c.requires c.loop-chan.invariant.sets

pub close-requires-clause-apart : goal.close-requires-clause-apart
close-requires-clause-apart g c = next_apart (accounts_of c.args.self.now) (accounts_of c.loop-chan.self) c.args.chans.now c.loop-chan.chan-index
    c.chan-item.result c.loop-chan-test.true
    c.chan-item.is c.requires c.loop-chan.invariant.sets

pub returns-in_err-close-clause-err : goal.returns-in_err-close-clause-err
returns-in_err-close-clause-err g c = on_err c.from_residual.result
    (disturbed_more (accounts_of c.args.self.now) (accounts_of c.loop-chan.self) (accounts_of c.close.new.self) c.args.chans.now c.loop-chan.chan-index
    c.chan-item.result c.chan-item.result true
    c.loop-chan-test.true c.chan-item.is c.loop-chan.invariant.sets c.in_err-close.ensures.disturbed)

pub loop-chan-preserved : goal.loop-chan-preserved
loop-chan-preserved g c = record {
  sets = elim c.if-not-is_closed.branch [
    | then-not-is_closed+in_ok-close w ↦ subst (Sets (accounts_of c.args.self.now) (take (c.loop-chan.chan-index + 1) c.args.chans.now) true) (ap accounts_of
        (sym w.self-is))
        (sets_more (accounts_of c.args.self.now) (accounts_of c.loop-chan.self) (accounts_of w.close.new.self) c.args.chans.now c.loop-chan.chan-index
        c.chan-item.result c.chan-item.result true
        c.loop-chan-test.true c.chan-item.is c.loop-chan.invariant.sets w.in_ok-close.ensures.ok)
    | else-not-is_closed w ↦ subst (Sets (accounts_of c.args.self.now) (take (c.loop-chan.chan-index + 1) c.args.chans.now) true) (ap accounts_of (sym
        w.self-is))
        (sets_more (accounts_of c.args.self.now) (accounts_of c.loop-chan.self) (accounts_of c.loop-chan.self) c.args.chans.now c.loop-chan.chan-index
        c.chan-item.result c.chan-item.result true
        c.loop-chan-test.true c.chan-item.is c.loop-chan.invariant.sets (sets_same (accounts_of c.loop-chan.self) c.chan-item.result true
        (sym c.is_closed.ensures ∙ w.if-not-is_closed.false)))
  ];
  others = elim c.if-not-is_closed.branch [
    | then-not-is_closed+in_ok-close w ↦ subst (KeepsOthers c.args.self.now c.args.chans.now) (sym w.self-is)
        (keeps_next c.args.self.now c.loop-chan.self w.close.new.self c.args.chans.now c.loop-chan.chan-index c.chan-item.result c.loop-chan-test.true
        c.chan-item.is c.loop-chan.invariant.others w.close.ensures.elsewhere)
    | else-not-is_closed w ↦ subst (KeepsOthers c.args.self.now c.args.chans.now) (sym w.self-is) c.loop-chan.invariant.others
  ];
  meters = elim c.if-not-is_closed.branch [
    | then-not-is_closed+in_ok-close w ↦ ap meters_of w.self-is ∙ w.close.ensures.meters ∙ c.loop-chan.invariant.meters
    | else-not-is_closed w ↦ ap meters_of w.self-is ∙ c.loop-chan.invariant.meters
  ];
}

pub returns-in_err-close-clause-meters : goal.returns-in_err-close-clause-meters
returns-in_err-close-clause-meters g c = c.close.ensures.meters ∙ c.loop-chan.invariant.meters

pub returns-clause-meters : goal.returns-clause-meters
returns-clause-meters g c = c.loop-chan.invariant.meters

pub returns-in_err-close-clause-others : goal.returns-in_err-close-clause-others
returns-in_err-close-clause-others g c = keeps_next c.args.self.now c.loop-chan.self c.close.new.self c.args.chans.now c.loop-chan.chan-index c.chan-item.result
    c.loop-chan-test.true c.chan-item.is c.loop-chan.invariant.others c.close.ensures.elsewhere

pub returns-clause-others : goal.returns-clause-others
returns-clause-others g c = c.loop-chan.invariant.others
