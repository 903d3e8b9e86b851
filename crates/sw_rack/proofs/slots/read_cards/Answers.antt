use Rattle.std.proofs.Common.{◌≡◌, ◌++◌, map, option_map}
use Rattle.std.specs.Option.{option_to_list}
use Rattle.std.proofs.lemmas.Result.{err_from_is_err_and}
use Rattle.toml.specs.View.{table_view}
use Rattle.sw_rack.specs.Racks.{cards_from}
use Rattle.sw_rack.specs.Seen.{card_seen}
use Rattle.sw_rack.proofs.BySlot.{slot_more, slot_fails, slots_done, seen_next, below_next, ascending_next}
use Rattle.sw_rack.proofs.slots.read_cards.Goals as goal

pub returns-in_err-found : goal.returns-in_err-found
returns-in_err-found c =
    let slots = table_view c.args.slots.now in
    let p = err_from_is_err_and c.from_residual.result c.from_residual.ensures.1 in
    rw (p.1, p.2) (slot_fails slots (map card_seen c.loop-before.cards.items) c.loop-before.before c.in_err-found.field-0.0
    (cards_from 16 1 slots) c.loop-before-test.true c.in_err-found.ensures.given c.loop-before.invariant.so_far)

pub loop-before-preserved : goal.loop-before-preserved
loop-before-preserved c =
    let slots = table_view c.args.slots.now in
    let cards = c.loop-before.cards.items in
    let found = c.in_ok-found.found in
    let n = c.loop-before.before in
    let kept = c.loop-before.invariant in
    let items : c.push_found.new.cards.items ≡ cards ++ option_to_list found = c.in_ok-push_found.ensures in
    record {
      so_far = rw (items, seen_next cards found)
          (slot_more slots (map card_seen cards) n (option_map card_seen found) (cards_from 16 1 slots) c.loop-before-test.true c.in_ok-found.ensures.given kept.so_far);
      below = rw items (below_next cards found n c.in_ok-found.ensures.slot kept.below);
      ascending = rw items (ascending_next cards found n c.in_ok-found.ensures.slot kept.below kept.ascending);
    }

pub returns : goal.returns
returns c =
    let slots = table_view c.args.slots.now in
    slots_done slots (map card_seen c.loop-before.cards.items) c.loop-before.before (cards_from 16 1 slots) c.loop-before-test.false c.loop-before.invariant.so_far
