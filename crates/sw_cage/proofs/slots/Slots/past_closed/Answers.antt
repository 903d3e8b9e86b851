use Rattle.std.proofs.Common.{◌≡◌, ℕ, ◌+◌, ◌-◌, ◌++◌, ◌∙◌, ap, sym, refl, arith, take, slice_index_or, [], ◌∷◌}
use Rattle.std.specs.List.{filter}
use Rattle.std.proofs.lemmas.List.{take_more}
use Rattle.sw_base.specs.Layout.{Channel}
use Rattle.sw_cage.specs.Accounts.{accounts_of, is_closed}
use Rattle.sw_cage.specs.Channels.{rows}
use Rattle.sw_cage.proofs.OneSlotLemmas.{slot_mask}
use Rattle.sw_cage.proofs.ClosedListLemmas.{walk_first, walk_number, walk_next, walk_end, walk_full, push_rows}
use Rattle.sw_cage.proofs.ComparedListLemmas.{next_walked, unequal, equal}
use Rattle.sw_cage.proofs.slots.Slots.past_closed.Goals.{then-past-chans-via-then-past-chans, then-past-chans-via-else-past-chans+then-ne}
use Rattle.sw_cage.proofs.slots.Slots.past_closed.Goals as goal

pub loop-init : goal.loop-init
loop-init g c =
    let s : c.args.before ≡ c.args.before + 1 - 1 = omega arith in
    record {
      within = c.requires.within;
      walked = walk_first (is_closed (accounts_of c.args.self.now)) (c.args.before + 1) c.closed-left.result (filter (is_closed (accounts_of c.args.self.now))
          (rows c.args.before))
          (take c.args.at c.args.chans.now) (slot_mask c.self.inside.slots.items (accounts_of c.args.self.now) (c.args.before + 1) c.closed-left.result
          c.index.result.now (ap accounts_of c.self.view_is) c.self.invariant.safe.size (omega arith) (omega arith)
          (c.index.ensures ∙ ap (λ (i : ℕ). slice_index_or c.self.inside.slots.items i c.index.result.now) s) c.closed-left.ensures)
          c.closed-left.ensures.within c.requires.kept;
    }

pub new-chan-requires-clause-ch_in : goal.new-chan-requires-clause-ch_in
new-chan-requires-clause-ch_in g c = walk_number (is_closed (accounts_of c.args.self.now)) (c.args.before + 1) c.loop.left c.loop.counter
    (filter (is_closed (accounts_of c.args.self.now)) (rows c.args.before)) (take c.loop.past c.args.chans.now) c.in-Some.ch c.loop.invariant.walked
    c.in-Some.ensures.here

pub returns-in_default-clause-kept : goal.returns-in_default-clause-kept
returns-in_default-clause-kept g c = push_rows (filter (is_closed (accounts_of c.args.self.now)) (rows c.args.before)) _ (is_closed (accounts_of
    c.args.self.now)) c.args.before refl
    (walk_end (is_closed (accounts_of c.args.self.now)) (c.args.before + 1) c.loop.left c.loop.counter (filter (is_closed (accounts_of c.args.self.now)) (rows
    c.args.before))
    (take c.loop.past c.args.chans.now) c.loop.invariant.walked c.in_default.ensures.none)

pub returns-then-past-chans-clause-other : goal.returns-then-past-chans-clause-other
returns-then-past-chans-clause-other g c e =
    let next = λ (d : Channel). next_walked (is_closed (accounts_of c.args.self.now)) c.args.before c.loop.left c.loop.counter c.loop.past c.args.chans.now
    c.in-Some.ch d
    c.requires.slot_in c.loop.invariant.within c.loop.invariant.walked c.in-Some.ensures.here c.in-Some.ensures.lowest e in
    elim c.then-past-chans.branch [
      | then-past-chans-via-then-past-chans w ↦ omega (arith, (next c.new-chan.result).0, w.if-past-chans)
      | then-past-chans-via-else-past-chans+then-ne w ↦ unequal w.ne.result w.index-chans-past.result c.new-chan.result w.ne.ensures w.if-ne.true
          (w.index-chans-past.is ∙ (next w.index-chans-past.result).1 ∙ sym c.new-chan.ensures)
    ]

pub loop-preserved : goal.loop-preserved
loop-preserved g c = record {
  within = omega (arith, c.if-past-chans.false);
  walked = walk_next (is_closed (accounts_of c.args.self.now)) (c.args.before + 1) c.loop.left c.remove.new.self c.loop.counter
      (filter (is_closed (accounts_of c.args.self.now)) (rows c.args.before)) (take c.loop.past c.args.chans.now) (take (c.loop.past + 1) c.args.chans.now)
      c.in-Some.ch
      c.index-chans-past.result c.loop.invariant.walked c.in-Some.ensures.here c.in-Some.ensures.lowest c.remove.ensures.here c.remove.ensures.others
      (equal c.ne.result c.index-chans-past.result c.new-chan.result c.ne.ensures c.if-ne.false ∙ c.new-chan.ensures)
      (take_more c.args.chans.now c.loop.past c.index-chans-past.result c.if-past-chans.false ∙ ap
      (λ (x : Channel). take c.loop.past c.args.chans.now ++ x ∷ []) (sym c.index-chans-past.is));
}

pub returns-clause-kept : goal.returns-clause-kept
returns-clause-kept g c = push_rows (filter (is_closed (accounts_of c.args.self.now)) (rows c.args.before)) _ (is_closed (accounts_of c.args.self.now))
    c.args.before refl
    (walk_full (is_closed (accounts_of c.args.self.now)) (c.args.before + 1) c.loop.left c.loop.counter (filter (is_closed (accounts_of c.args.self.now)) (rows
    c.args.before))
    (take c.loop.past c.args.chans.now) c.loop.invariant.walked (omega arith))
