-- One card more of a rack.
use Rattle.std.proofs.Common.{◌≡◌, List, [], ◌∷◌, ◌++◌, refl, sym, ap, ◌∙◌}
use Rattle.sw_card.specs.Account.{Account}
use Rattle.sw_rack.specs.declared.rack.RackCard.{RackCard}
use Rattle.sw_serve.specs.declared.slot_card.SlotCard.{SlotCard}
use Rattle.sw_serve.specs.SlotCards.{PlacedCard, placed, own_seen, cards_seen}
use Rattle.mainframe.specs.RackCards.{account_of, rack_cards}

seen-more : {R M : Type 0} (relays : R → Account) (meters : M → Account) (cards : List (SlotCard R M)) (o : SlotCard R M)
    → cards_seen relays meters (cards ++ o ∷ []) ≡ cards_seen relays meters cards ++ cards_seen relays meters (o ∷ [])
seen-more relays meters [] o = refl
seen-more relays meters (x ∷ cards) o =
    ap (λ (l : List PlacedCard). placed x.slot (own_seen relays meters x.card) ∷ l) (seen-more relays meters cards o)

rack-more : (cards : List RackCard) (c : RackCard) → rack_cards (cards ++ c ∷ []) ≡ rack_cards cards ++ rack_cards (c ∷ [])
rack-more [] c = refl
rack-more (x ∷ cards) c = ap (λ (l : List PlacedCard). placed x.slot (account_of x) ∷ l) (rack-more cards c)

pub one-more : {R M : Type 0} (relays : R → Account) (meters : M → Account) (cards more : List (SlotCard R M)) (read : List RackCard)
    (o : SlotCard R M) (c : RackCard) → cards_seen relays meters cards ≡ rack_cards read
    → cards_seen relays meters (o ∷ []) ≡ rack_cards (c ∷ []) → more ≡ cards ++ o ∷ [] → cards_seen relays meters more ≡ rack_cards (read ++ c ∷ [])
one-more relays meters cards more read o c so_far here e =
    ap (cards_seen relays meters) e ∙ seen-more relays meters cards o
    ∙ ap (λ (l : List PlacedCard). l ++ cards_seen relays meters (o ∷ [])) so_far
    ∙ ap (λ (l : List PlacedCard). rack_cards read ++ l) here ∙ sym (rack-more read c)
