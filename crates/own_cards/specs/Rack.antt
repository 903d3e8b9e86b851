-- Which card is offered to which slot.
use Rattle.std.specs.Prelude.{ℕ, ◌+◌, List, [], ◌∷◌}
use Rattle.sw_card.specs.Account.{Account}
use Rattle.sw_serve.specs.SlotCards.{PlacedCard, placed}

-- the first card for the slot of this number, the next for the slot after it, and so on
abbrev pub in_order : ℕ → List Account → List PlacedCard
in_order slot [] = []
in_order slot (card ∷ cards) = placed slot card ∷ in_order (slot + 1) cards
