use Rattle.std.proofs.Common.{◌≡◌, ◌∙◌, IfOk, sym, subst}
use Rattle.std.proofs.lemmas.Iterator.Adapters.{YieldsList-from_vec}
use Rattle.std.proofs.lemmas.Iterator.Consumers.{YieldsList-end}
use Rattle.sw_serve.specs.SlotCards.{cards_seen, relay_seen, meter_seen}
use Rattle.sw_serve.proofs.failing.tell_failures.Goals as goal
use Rattle.std.proofs.lemmas.List.{map-id}

pub loop-placed-preserved : goal.loop-placed-preserved
loop-placed-preserved g c = c.with_card-told.ensures c.loop-placed.yielded c.loop-placed.invariant

pub returns : goal.returns
returns g c =
    let b = c.into_iter-placed-iterator.ensures.into_iter_gives in
    let all = YieldsList-end (YieldsList-from_vec c.args.cards.items b.0 (b.1 ∙ c.args.cards.ok.0)) c.loop-placed.yielded c.loop-placed.placed-iterator
    c.loop-placed.yielded_by c.next.result c.next.new.self
    c.in-None.is c.next.ensures.steps in
    subst (λ l. IfOk c.loop-placed.told (λ told. cards_seen
    (relay_seen (λ t. g.R.Board.the_serial t.card) (λ t. g.R.Board.failed t.card) (λ t. g.R.Relay.groups t.card) (λ t. g.R.Relay.closed t.card))
    (meter_seen (λ t. g.M.Board.the_serial t.card) (λ t. g.M.Board.failed t.card) (λ t. g.M.Meter.last_reading t.card)) told.items
    ≡ cards_seen (relay_seen g.R.Board.the_serial g.R.Board.failed g.R.Relay.groups g.R.Relay.closed)
    (meter_seen g.M.Board.the_serial g.M.Board.failed g.M.Meter.last_reading) l)) (sym (map-id c.loop-placed.yielded) ∙ all.0) c.loop-placed.invariant
