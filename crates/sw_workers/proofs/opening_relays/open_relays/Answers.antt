use Rattle.std.proofs.Common.{◌≡◌, ◌∙◌, ℕ, sym, ap, subst, arith, append-nil}
use Rattle.sw_base.specs.Limits.{most_slots}
use Rattle.sw_core.specs.Panel.{Panel}
use Rattle.sw_history.specs.Held.{Locked}
use Rattle.sw_history.specs.Opened.{IsOpened}
use Rattle.sw_workers.specs.Halves.{StayJoined}
use Rattle.sw_workers.proofs.AbortedLemmas.{IsGrown, ends_here, no_slots, slots_more}
use Rattle.sw_workers.proofs.OpenedLemmas.{IsSoFar, none_yet, one_more, all_opened}
use Rattle.sw_workers.proofs.opening_relays.open_relays.Goals as goal

pub loop-before-init : goal.loop-before-init
loop-before-init g c = record {
  so_far = none_yet c.args.held.now.panel;
  entries = no_slots c.args.held.now.panel c.args.held.now.history c.args.held.now.history (sym (append-nil c.args.held.now.history));
  seen = λ none. absurd (omega (arith, none));
  joined = λ sid is. is;
}

pub loop-before-preserved : goal.loop-before-preserved
loop-before-preserved g c = record {
  so_far = one_more c.args.held.now.panel c.loop-before.held.panel c.open_slot.new.held.panel c.loop-before.before c.loop-before.invariant.so_far
      c.open_slot.ensures.reopens;
  entries = slots_more c.args.held.now.panel c.loop-before.held.panel c.open_slot.new.held.panel c.loop-before.before c.args.held.now.history
      c.loop-before.held.history c.open_slot.new.held.history c.loop-before.invariant.entries c.open_slot.ensures.entries;
  seen = λ later. c.open_slot.ensures.seen;
  joined = λ sid is. c.open_slot.ensures.joined sid (c.loop-before.invariant.joined sid is);
}

pub note_opened-requires : goal.note_opened-requires
note_opened-requires g c =
    let p = c.args.held.now.panel in
    let m = c.loop-before.held.panel in
    let last : c.loop-before.before ≡ most_slots = omega (arith, c.loop-before-test.false, c.loop-before.auto.before-end) in
    let first = c.runs_go_on.ensures.good p c.has_history.ensures.reached in
    let good = c.runs_go_on.ensures.good m c.has_history-2.ensures.reached in
    let so = subst (λ (n : ℕ). IsSoFar p n m) last c.loop-before.invariant.so_far in
    let grown = subst (λ (n : ℕ). IsGrown p c.args.held.now.history n m c.loop-before.held.history) last c.loop-before.invariant.entries in
    ends_here g.H.Recording.first p m c.args.held.now.history c.loop-before.held.history c.has_history.ensures.leads grown
    (all_opened p m good.good.held.slots first.good.held.slots so)

pub returns-clause-opened : goal.returns-clause-opened
returns-clause-opened g c =
    let p = c.args.held.now.panel in
    let m = c.loop-before.held.panel in
    let last : c.loop-before.before ≡ most_slots = omega (arith, c.loop-before-test.false, c.loop-before.auto.before-end) in
    let first = c.runs_go_on.ensures.good p c.has_history.ensures.reached in
    let good = c.runs_go_on.ensures.good m c.has_history-2.ensures.reached in
    let so = subst (λ (n : ℕ). IsSoFar p n m) last c.loop-before.invariant.so_far in
    let noted = ap (λ (l : Locked _). l.panel) c.note_opened.ensures in
    subst (λ (x : Panel). IsOpened p x) (sym (ap (λ (l : Locked _). l.panel) c.take_turn.ensures ∙ noted))
    (all_opened p m good.good.held.slots first.good.held.slots so)

pub returns-clause-joined : goal.returns-clause-joined
returns-clause-joined g c =
    let noted = ap (λ (l : Locked _). l.panel) c.note_opened.ensures in
    subst (λ (x : Panel). StayJoined c.args.held.now.panel x) (sym (ap (λ (l : Locked _). l.panel) c.take_turn.ensures ∙ noted)) c.loop-before.invariant.joined
