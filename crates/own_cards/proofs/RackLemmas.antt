-- One card more in a rack.
use Rattle.std.proofs.Common.{◌≡◌, ℕ, ◌+◌, List, [], ◌∷◌, ◌++◌, length, map, refl, sym, ap, ◌∙◌, arith, length-append}
use Rattle.std.proofs.lemmas.List.{map-append, length-map}
use Rattle.sw_card.specs.Account.{Account}
use Rattle.sw_serve.specs.declared.slot_card.OwnCard.{OwnCard}
use Rattle.sw_serve.specs.declared.slot_card.SlotCard.{SlotCard}
use Rattle.sw_serve.specs.SlotCards.{PlacedCard, placed, own_seen, cards_seen}
use Rattle.own_cards.specs.Rack.{in_order}

-- the cards so far stand in the rack, in order
pub record IsRacked {R M : Type 0} (relays : R → Account) (meters : M → Account) (cards : List (OwnCard R M)) (rack : List (SlotCard R M)) : Type 0 where
  pub order : cards_seen relays meters rack ≡ in_order 1 (map (own_seen relays meters) cards)
  pub size : length rack ≡ length cards

order-more : (slot : ℕ) (cards : List Account) (card : Account)
    → in_order slot (cards ++ card ∷ []) ≡ in_order slot cards ++ placed (slot + length cards) card ∷ []
order-more slot [] card = let e : slot ≡ slot + 0 = omega arith in ap (λ (n : ℕ). placed n card ∷ []) e
order-more slot (x ∷ cards) card =
    let e : slot + 1 + length cards ≡ slot + length (x ∷ cards) = omega arith in
    ap (λ (l : List PlacedCard). placed slot x ∷ l) (order-more (slot + 1) cards card
    ∙ ap (λ (n : ℕ). in_order (slot + 1) cards ++ placed n card ∷ []) e)

seen-more : {R M : Type 0} (relays : R → Account) (meters : M → Account) (rack : List (SlotCard R M)) (o : SlotCard R M)
    → cards_seen relays meters (rack ++ o ∷ []) ≡ cards_seen relays meters rack ++ placed o.slot (own_seen relays meters o.card) ∷ []
seen-more relays meters [] o = refl
seen-more relays meters (x ∷ rack) o =
    ap (λ (l : List PlacedCard). placed x.slot (own_seen relays meters x.card) ∷ l) (seen-more relays meters rack o)

pub racked-more : {R M : Type 0} (relays : R → Account) (meters : M → Account) (cards : List (OwnCard R M)) (rack more : List (SlotCard R M)) (slot : ℕ)
    (card : OwnCard R M) → IsRacked relays meters cards rack → slot ≡ length rack + 1 → more ≡ rack ++ (record { slot = slot; card = card }) ∷ []
    → IsRacked relays meters (cards ++ card ∷ []) more
racked-more relays meters cards rack more slot card h e f =
    let own = own_seen relays meters in
    let place : slot ≡ 1 + length (map own cards) = omega (arith, e, h.size, length-map cards own) in
    record {
      order =
          ap (cards_seen relays meters) f ∙ seen-more relays meters rack (record { slot = slot; card = card })
          ∙ ap (λ (l : List PlacedCard). l ++ placed slot (own card) ∷ []) h.order
          ∙ ap (λ (n : ℕ). in_order 1 (map own cards) ++ placed n (own card) ∷ []) place
          ∙ sym (order-more 1 (map own cards) (own card)) ∙ ap (in_order 1) (sym (map-append own cards (card ∷ [])));
      size = ap length f ∙ omega (arith, h.size, length-append rack ((record { slot = slot; card = card }) ∷ []), length-append cards (card ∷ []));
    }
