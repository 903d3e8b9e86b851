use Rattle.std.proofs.Common.{arith}
use Rattle.sw_serve.specs.SlotCards.{relay_seen, meter_seen}
use Rattle.own_cards.proofs.RackLemmas.{racked-more}
use Rattle.own_cards.proofs.rack.in_rack.Goals as goal

pub loop-card-preserved : goal.loop-card-preserved
loop-card-preserved g c = racked-more (relay_seen g.R.Board.the_serial g.R.Board.failed g.R.Relay.groups g.R.Relay.closed)
    (meter_seen g.M.Board.the_serial g.M.Board.failed g.M.Meter.last_reading) c.loop-card.yielded c.loop-card.rack.items c.push.new.self.items _ c.in-Some.card
    c.loop-card.invariant (omega (arith, c.len.ensures, c.loop-card.rack.ok)) c.in_ok-push.ensures.items
