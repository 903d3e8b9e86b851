use Rattle.sw_serve.specs.SlotCards.{relay_seen, meter_seen}
use Rattle.own_cards.proofs.RackLemmas.{IsRacked}
use Rattle.own_cards.proofs.rack.in_rack.Given as goal

abbrev pub invariant-loop-card : goal.invariant-loop-card
invariant-loop-card g l = IsRacked (relay_seen g.R.Board.the_serial g.R.Board.failed g.R.Relay.groups g.R.Relay.closed)
    (meter_seen g.M.Board.the_serial g.M.Board.failed g.M.Meter.last_reading) l.yielded l.rack.items
