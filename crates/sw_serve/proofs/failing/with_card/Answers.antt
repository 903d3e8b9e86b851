use Rattle.std.proofs.Common.{◌≡◌, IfOk, refl, subst}
use Rattle.sw_serve.specs.SlotCards.{cards_seen, relay_seen, meter_seen}
use Rattle.sw_serve.proofs.SlotCardsLemmas.{told-more}
use Rattle.sw_serve.proofs.failing.with_card.Goals as goal

pub returns : goal.returns
returns g c = λ cards so.
    let relays = relay_seen g.R.Board.the_serial g.R.Board.failed g.R.Relay.groups g.R.Relay.closed in
    let meters = meter_seen g.M.Board.the_serial g.M.Board.failed g.M.Meter.last_reading in
    let same = subst (λ r. IfOk r (λ told. cards_seen
    (relay_seen (λ t. g.R.Board.the_serial t.card) (λ t. g.R.Board.failed t.card) (λ t. g.R.Relay.groups t.card) (λ t. g.R.Relay.closed t.card))
    (meter_seen (λ t. g.M.Board.the_serial t.card) (λ t. g.M.Board.failed t.card) (λ t. g.M.Meter.last_reading t.card)) told.items
    ≡ cards_seen relays meters cards)) c.in_ok-told.was so in
    told-more relays meters
    (relay_seen (λ t. g.R.Board.the_serial t.card) (λ t. g.R.Board.failed t.card) (λ t. g.R.Relay.groups t.card) (λ t. g.R.Relay.closed t.card))
    (meter_seen (λ t. g.M.Board.the_serial t.card) (λ t. g.M.Board.failed t.card) (λ t. g.M.Meter.last_reading t.card)) _ _ _ _ _
    c.in_ok-push.ensures.items refl c.with_log.ensures same
