use Rattle.std.proofs.Common.{◌≡◌, map}
use Rattle.std.specs.List.{range_with_len}
use Rattle.sw_cage.specs.Accounts.{slot_contents}
use Rattle.mainframe.specs.RackCards.{offered_to, rack_cards}
use Rattle.mainframe.proofs.rack_cards.rack_layout.Given as goal

abbrev pub invariant-loop-before : goal.invariant-loop-before
invariant-loop-before l =
    l.slots.items ≡ map (λ slot. slot_contents (offered_to slot (rack_cards l.rack.cards.items))) (range_with_len 1 l.before)
