use Rattle.std.proofs.Common.{◌≡◌}
use Rattle.sw_serve.specs.SlotCards.{cards_seen}
use Rattle.mainframe.specs.RackCards.{banks_seen, volt_seen, rack_cards}
use Rattle.mainframe.proofs.rack_cards.cards_of.Given as goal

abbrev pub invariant-loop-card : goal.invariant-loop-card
invariant-loop-card g l = cards_seen banks_seen volt_seen l.cards.items ≡ rack_cards l.yielded
