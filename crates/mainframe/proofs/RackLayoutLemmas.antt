-- A mainframe that holds a rack's cards has that rack's layout.
use Rattle.std.proofs.Common.{◌≡◌, ◌≢◌, ◌<◌, ◌+◌, ◌-◌, inl, inr, ℕ, List, [], ◌∷◌, ◌++◌, map, length, Option, Some, None, refl, sym, ap, ◌∙◌}
use Rattle.std.proofs.Common.{slice_index_or, arith}
use Rattle.std.specs.Prelude.{All}
use Rattle.std.specs.List.{range_with_len}
use Rattle.std.proofs.lemmas.Bool.{cases_eq, eq-eqb, ne_eqb}
use Rattle.std.proofs.lemmas.List.{ext_get_or}
use Rattle.std.proofs.lemmas.List.Elements.{All-nil, All-cons, All-head, All-tail, All-contains}
use Rattle.std.proofs.lemmas.List.FromFn.{length-map-range_with_len, get_or-map-range_with_len, map-range_with_len_more}
use Rattle.sw_base.specs.Layout.{slot_at}
use Rattle.sw_base.specs.Limits.{most_slots}
use Rattle.sw_card.specs.Account.{Account}
use Rattle.sw_cage.specs.Accounts.{Accounts, layout_of}
use Rattle.sw_cage.proofs.SlotChangeLemmas.{slot_get}
use Rattle.sw_serve.specs.SlotCards.{PlacedCard, placed, Holds}
use Rattle.sw_serve.specs.Fitting.{AreApart}
use Rattle.mainframe.specs.RackCards.{offered_to, slots_with}

there : (o : PlacedCard) (more : List PlacedCard) (slot : ℕ) → o.slot ≡ slot → offered_to slot (o ∷ more) ≡ Some o.card
there o more slot e = rw (eq-eqb o.slot slot e) refl

further : (o : PlacedCard) (more : List PlacedCard) (slot : ℕ) → o.slot ≢ slot → offered_to slot (o ∷ more) ≡ offered_to slot more
further o more slot e = rw (ne_eqb o.slot slot e) refl

-- a card that is held is the one that is offered to its slot

abbrev IsOffered : List PlacedCard → PlacedCard → Type 0
IsOffered cards o = offered_to o.slot cards ≡ Some o.card

behind : (o : PlacedCard) (cards more : List PlacedCard) → All (λ other. other.slot ≢ o.slot) more → All (IsOffered cards) more
    → All (IsOffered (o ∷ cards)) more
behind o cards [] apart offered = All-nil (IsOffered (o ∷ cards))
behind o cards (x ∷ more) apart offered =
    All-cons (IsOffered (o ∷ cards)) x more
    (further o cards x.slot (λ e. All-head (λ (p : PlacedCard). p.slot ≢ o.slot) x more apart (sym e)) ∙ All-head (IsOffered cards) x more offered)
    (behind o cards more (All-tail (λ (p : PlacedCard). p.slot ≢ o.slot) x more apart) (All-tail (IsOffered cards) x more offered))

all_offered : (cards : List PlacedCard) → AreApart cards → All (IsOffered cards) cards
all_offered [] apart = All-nil (IsOffered [])
all_offered (o ∷ more) apart =
    All-cons (IsOffered (o ∷ more)) o more (there o more o.slot refl) (behind o more more apart.0 (all_offered more apart.1))

-- a card that is offered to a slot is held there

held : (slots : Accounts) (cards : List PlacedCard) → All (λ o. slot_at slots o.slot ≡ Some o.card) cards → (slot : ℕ) (card : Account)
    → offered_to slot cards ≡ Some card → slot_at slots slot ≡ Some card
held slots [] each slot card e = absurd (cc e)
held slots (o ∷ more) each slot card e =
    let Is : PlacedCard → Type 0 = λ o. slot_at slots o.slot ≡ Some o.card in
    elim (cases_eq o.slot slot) [
      | inl same ↦ ap (slot_at slots) (sym same) ∙ All-head Is o more each ∙ sym (there o more slot same) ∙ e
      | inr differ ↦ held slots more (All-tail Is o more each) slot card (sym (further o more slot differ) ∙ e)
    ]

agree : (has offered : Option Account) → ((card : Account) → has ≡ Some card → offered ≡ Some card)
    → ((card : Account) → offered ≡ Some card → has ≡ Some card) → has ≡ offered
agree None None there back = refl
agree None (Some card) there back = back card refl
agree (Some card) offered there back = sym (there card refl)

one_slot : (slots : Accounts) (cards : List PlacedCard) → AreApart cards → Holds slots cards → (slot : ℕ) → slot_at slots slot ≡ offered_to slot cards
one_slot slots cards apart holds slot =
    agree (slot_at slots slot) (offered_to slot cards)
    (λ card e. All-contains (IsOffered cards) cards (placed slot card) (all_offered cards apart) (holds.only slot card e))
    (held slots cards holds.each slot)

all_slots : (slots : Accounts) (cards : List PlacedCard) → AreApart cards → length slots ≡ most_slots → Holds slots cards → slots ≡ slots_with cards
all_slots slots cards apart size holds =
    let offered : ℕ → Option Account = λ slot. offered_to slot cards in
    ext_get_or None slots (slots_with cards) (size ∙ sym (length-map-range_with_len offered 1 most_slots))
    (λ i within.
    let back : i + 1 - 1 ≡ i = omega arith in
    let below : i < most_slots = omega (arith, within, size) in
    let same : slice_index_or slots i None ≡ slot_at slots (i + 1) =
    ap (λ k. slice_index_or slots k None) (sym back) ∙ sym (slot_get slots (i + 1) (omega arith)) in
    same ∙ one_slot slots cards apart holds (i + 1)
    ∙ sym (get_or-map-range_with_len offered 1 most_slots i (i + 1) None below (omega arith)))

pub layout_held : (slots : Accounts) (cards : List PlacedCard) → AreApart cards → length slots ≡ most_slots → Holds slots cards
    → layout_of slots ≡ layout_of (slots_with cards)
layout_held slots cards apart size holds = ap layout_of (all_slots slots cards apart size holds)

-- one slot more
pub slot-more : {A : Type 0} (f : ℕ → A) (slots more : List A) (n : ℕ) (x : A) → slots ≡ map f (range_with_len 1 n) → x ≡ f (n + 1)
    → more ≡ slots ++ x ∷ [] → more ≡ map f (range_with_len 1 (n + 1))
slot-more {A} f slots more n x so_far here e =
    e ∙ ap (λ (l : List A). l ++ x ∷ []) so_far ∙ ap (λ (v : A). map f (range_with_len 1 n) ++ v ∷ []) here
    ∙ sym (map-range_with_len_more f 1 n (n + 1) (omega arith))
