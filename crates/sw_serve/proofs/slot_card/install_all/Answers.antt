use Rattle.std.proofs.Common.{◌∙◌, sym, subst, arith}
use Rattle.std.proofs.lemmas.Iterator.Adapters.{YieldsList-from_vec}
use Rattle.std.proofs.lemmas.Iterator.Consumers.{YieldsList-end, YieldsList-turn, YieldsList-so_far}
use Rattle.std.proofs.lemmas.List.{map-id}
use Rattle.sw_serve.specs.SlotCards.{cards_seen, relay_seen, meter_seen, TakesCards}
use Rattle.sw_serve.proofs.SlotCardsLemmas.{so_far-none, so_far-more, refuses-next}
use Rattle.sw_serve.proofs.slot_card.install_all.Goals as goal

pub loop-placed-init : goal.loop-placed-init
loop-placed-init g c = so_far-none (relay_seen g.R.Board.the_serial g.R.Board.failed g.R.Relay.groups g.R.Relay.closed)
    (meter_seen g.M.Board.the_serial g.M.Board.failed g.M.Meter.last_reading) _

pub install_one-requires : goal.install_one-requires
install_one-requires g c =
    let b = c.into_iter-placed-iterator.ensures.into_iter_gives in
    let turn = YieldsList-turn (YieldsList-from_vec c.args.cards.items b.0 (b.1 ∙ c.args.cards.ok.0)) c.loop-placed.yielded c.loop-placed.placed-iterator
    c.loop-placed.yielded_by c.next.result c.next.new.self c.in-Some.placed c.in-Some.is c.next.ensures.steps in
    omega (arith, turn.0, c.requires, c.loop-placed.invariant.few, c.args.cards.ok, c.args.cards.small)

pub returns-in-Err-clause-refused : goal.returns-in-Err-clause-refused
returns-in-Err-clause-refused g c =
    let b = c.into_iter-placed-iterator.ensures.into_iter_gives in
    let road = YieldsList-from_vec c.args.cards.items b.0 (b.1 ∙ c.args.cards.ok.0) in
    let turn = YieldsList-turn road c.loop-placed.yielded c.loop-placed.placed-iterator
    c.loop-placed.yielded_by c.next.result c.next.new.self c.in-Some.placed c.in-Some.is c.next.ensures.steps in
    let header = YieldsList-so_far road c.loop-placed.yielded c.loop-placed.placed-iterator c.loop-placed.yielded_by in
    refuses-next (relay_seen g.R.Board.the_serial g.R.Board.failed g.R.Relay.groups g.R.Relay.closed)
    (meter_seen g.M.Board.the_serial g.M.Board.failed g.M.Meter.last_reading) _ _ _ _ _ _ _
    (sym (map-id c.loop-placed.yielded) ∙ header) turn.0 turn.1 c.card_of.ensures c.loop-placed.invariant c.in-Err.ensures.refused

pub loop-placed-preserved : goal.loop-placed-preserved
loop-placed-preserved g c =
    so_far-more (relay_seen g.R.Board.the_serial g.R.Board.failed g.R.Relay.groups g.R.Relay.closed)
    (meter_seen g.M.Board.the_serial g.M.Board.failed g.M.Meter.last_reading) _ _ _ _ _ _ c.card_of.ensures c.loop-placed.invariant c.in_default.ensures.taken

pub returns-clause-taken : goal.returns-clause-taken
returns-clause-taken g c =
    let b = c.into_iter-placed-iterator.ensures.into_iter_gives in
    let all = YieldsList-end (YieldsList-from_vec c.args.cards.items b.0 (b.1 ∙ c.args.cards.ok.0)) c.loop-placed.yielded c.loop-placed.placed-iterator
    c.loop-placed.yielded_by c.next.result c.next.new.self c.in-None.is c.next.ensures.steps in
    subst (λ l. TakesCards c.args.core.now.seen (cards_seen (relay_seen g.R.Board.the_serial g.R.Board.failed g.R.Relay.groups g.R.Relay.closed)
    (meter_seen g.M.Board.the_serial g.M.Board.failed g.M.Meter.last_reading) l) c.loop-placed.core.seen) (sym (map-id c.loop-placed.yielded) ∙ all.0)
    c.loop-placed.invariant.takes
