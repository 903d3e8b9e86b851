use Rattle.std.proofs.Common.{◌≡◌, drop}
use Rattle.mainframe.specs.RackCards.{offered_to, rack_cards}
use Rattle.mainframe.proofs.rack_cards.slot_of.Given as goal

abbrev pub invariant-loop-card : goal.invariant-loop-card
invariant-loop-card l =
    offered_to l.slot (rack_cards (drop l.card-index l.rack.cards.items)) ≡ offered_to l.slot (rack_cards l.rack.cards.items)
