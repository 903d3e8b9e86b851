use Rattle.std.proofs.Common.{◌≡◌, IfOk}
use Rattle.sw_serve.specs.SlotCards.{cards_seen, relay_seen, meter_seen}
use Rattle.sw_serve.proofs.failing.tell_failures.Given as goal

abbrev pub invariant-loop-placed : goal.invariant-loop-placed
invariant-loop-placed g l = IfOk l.told (λ told. cards_seen
    (relay_seen (λ t. g.R.Board.the_serial t.card) (λ t. g.R.Board.failed t.card) (λ t. g.R.Relay.groups t.card) (λ t. g.R.Relay.closed t.card))
    (meter_seen (λ t. g.M.Board.the_serial t.card) (λ t. g.M.Board.failed t.card) (λ t. g.M.Meter.last_reading t.card)) told.items
    ≡ cards_seen (relay_seen g.R.Board.the_serial g.R.Board.failed g.R.Relay.groups g.R.Relay.closed)
    (meter_seen g.M.Board.the_serial g.M.Board.failed g.M.Meter.last_reading) l.yielded)
