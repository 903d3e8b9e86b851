use Rattle.std.proofs.Common.{take, sym, subst}
use Rattle.std.proofs.lemmas.List.{take_all}
use Rattle.std.proofs.lemmas.List.Elements.{All-more, recursion_from_All}
use Rattle.sw_verify.specs.Channels.{is_among, none}
use Rattle.sw_verify.specs.Sound.{CanCloseEach}
use Rattle.sw_verify.proofs.Each.{shows_again, opens_again}
use Rattle.sw_verify.proofs.ready.first_blocked.Goals as goal

pub returns-in-Err-clause-blocked : goal.returns-in-Err-clause-blocked
returns-in-Err-clause-blocked c =
    let b = is_among c.args.closed.now in
    let P = CanCloseEach c.args.layout.now b in
    record {
      at = c.loop-p.p-index;
      within = c.loop-p-test.true;
      there = sym c.p-item.is;
      before = recursion_from_All P (take c.loop-p.p-index c.args.positions.now) c.loop-p.invariant.can;
      cause = c.in-Err.field-0;
      barred = c.in-Err.ensures.barred b b none c.loop-p.invariant.shows;
    }

pub unreachable-requires : goal.unreachable-requires
unreachable-requires c =
    let b = is_among c.args.closed.now in
    let w = c.in_default.ensures.closed b b none c.loop-p.invariant.shows in
    opens_again c.args.layout.now b c.p-item.result w.0 (c.in-Err-open.ensures.refused.1 b _ _ w.1)

pub loop-p-preserved : goal.loop-p-preserved
loop-p-preserved c =
    let layout = c.args.layout.now in
    let b = is_among c.args.closed.now in
    let p = c.p-item.result in
    let w = c.in_default.ensures.closed b b none c.loop-p.invariant.shows in
    record {
      shows = shows_again layout b p c.close.new.self c.open.new.self w.0 c.in_default-open.ensures.opened w.1;
      can = All-more (CanCloseEach layout b) c.args.positions.now c.loop-p.p-index p c.loop-p-test.true c.loop-p.invariant.can
          (subst (CanCloseEach layout b) c.p-item.is w.0);
    }

pub returns-clause-free : goal.returns-clause-free
returns-clause-free c =
    let P = CanCloseEach c.args.layout.now (is_among c.args.closed.now) in
    let ps = c.args.positions.now in
    recursion_from_All P ps (rw (take_all c.loop-p.p-index ps c.loop-p-test.false) at c.loop-p.invariant.can)
