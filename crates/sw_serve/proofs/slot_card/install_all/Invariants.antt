use Rattle.sw_serve.specs.SlotCards.{relay_seen, meter_seen}
use Rattle.sw_serve.proofs.SlotCardsLemmas.{TakesSoFar}
use Rattle.sw_serve.proofs.slot_card.install_all.Given as goal

abbrev pub invariant-loop-placed : goal.invariant-loop-placed
invariant-loop-placed g l = TakesSoFar (relay_seen g.R.Board.the_serial g.R.Board.failed g.R.Relay.groups g.R.Relay.closed)
    (meter_seen g.M.Board.the_serial g.M.Board.failed g.M.Meter.last_reading) l.fn.core.seen l.yielded l.core.seen
