-- The cards of the slots, slot by slot, as a loop reads them.
use Rattle.std.proofs.Common.{◌≡◌, ℕ, suc, ◌+◌, ◌-◌, ◌<◌, ◌≤◌, true, false, List, [], ◌∷◌, ◌++◌, length, map, Option, Some, None, Result, Ok, Err, refl, sym, ap, ◌∙◌, append_assoc, arith}
use Rattle.std.proofs.lemmas.List.{append-nil, map_push}
use Rattle.std.specs.Prelude.{IfSome, option_map}
use Rattle.std.specs.List.{AllByRecursion}
use Rattle.std.specs.Option.{option_to_list}
use Rattle.std.specs.Str.{bytes_eq}
use Rattle.toml.specs.Data.{Members, get_member}
use Rattle.toml.specs.View.{members_view}
use Rattle.toml.proofs.Views.{Entry}
use Rattle.sw_rack.specs.declared.fault.TableError.{TableError}
use Rattle.sw_rack.specs.declared.fault.TableError.TheVariants as errors
use Rattle.sw_rack.specs.Reading.{◌>>=◌}
use Rattle.sw_rack.specs.Templates.{decimal}
use Rattle.sw_rack.specs.declared.rack.RackCard.{RackCard}
use Rattle.sw_rack.specs.Seen.{CardSeen, card_seen}
use Rattle.sw_rack.specs.Ascending.{AreAscending}
use Rattle.sw_rack.specs.Racks.{Fault, FailsBy, card_at, cards_from, filled, is_slot}

-- ---- names of slots

pub is_slot_here : (before : ℕ) (name : List ℕ) → before < 16 → bytes_eq (decimal (before + 1)) name ≡ true → is_slot (16 - before) (before + 1) name ≡ true
is_slot_here before name lt same =
    let k : 16 - before ≡ suc (16 - (before + 1)) = omega arith in
    rw (k, same) refl

pub is_slot_later : (before : ℕ) (name : List ℕ) → before < 16 → bytes_eq (decimal (before + 1)) name ≡ false
    → is_slot (16 - before) (before + 1) name ≡ is_slot (16 - (before + 1)) (before + 1 + 1) name
is_slot_later before name lt other =
    let k : 16 - before ≡ suc (16 - (before + 1)) = omega arith in
    rw (k, other) refl

pub is_slot_never : (before : ℕ) (name : List ℕ) → 16 ≤ before → is_slot (16 - before) (before + 1) name ≡ false
is_slot_never before name le =
    let k : 16 - before ≡ 0 = omega arith in
    rw k refl

-- ---- cards

-- what was read before, and what is still read
abbrev pub with_cards : List CardSeen → Result (List CardSeen) Fault → Result (List CardSeen) Fault
with_cards front read = read >>= λ cards. Ok (front ++ cards)

regroup : (front here : List CardSeen) (read : Result (List CardSeen) Fault) → with_cards front (read >>= λ cards. Ok (here ++ cards)) ≡ with_cards (front ++ here) read
regroup front here (Ok cards) = ap Ok (sym (append_assoc front here cards))
regroup front here (Err e) = refl

-- the cards of the slots behind one
abbrev pub behind : Members → ℕ → Result (List CardSeen) Fault
behind slots before = cards_from (16 - before) (before + 1) slots

pub slot_more : (slots : Members) (front : List CardSeen) (before : ℕ) (here : Option CardSeen) (total : Result (List CardSeen) Fault)
    → before < 16 → card_at (before + 1) (get_member (decimal (before + 1)) slots) ≡ Ok here
    → with_cards front (behind slots before) ≡ total → with_cards (front ++ option_to_list here) (behind slots (before + 1)) ≡ total
unfolding cards_from
slot_more slots front before here total lt is so_far =
    let k : 16 - before ≡ suc (16 - (before + 1)) = omega arith in
    let one : with_cards front (behind slots before) ≡ with_cards (front ++ option_to_list here) (behind slots (before + 1)) =
    rw (k, is) (regroup front (option_to_list here) (behind slots (before + 1))) in
    sym one ∙ so_far

pub slot_fails : (slots : Members) (front : List CardSeen) (before : ℕ) (e : TableError) (total : Result (List CardSeen) Fault)
    → before < 16 → FailsBy e (card_at (before + 1) (get_member (decimal (before + 1)) slots))
    → with_cards front (behind slots before) ≡ total → FailsBy e total
unfolding cards_from
slot_fails slots front before errors.Memory total lt is so_far = tt
slot_fails slots front before (errors.Fault fault) total lt is so_far =
    let k : 16 - before ≡ suc (16 - (before + 1)) = omega arith in
    sym so_far ∙ rw (k, is) refl

pub slots_done : (slots : Members) (front : List CardSeen) (before : ℕ) (total : Result (List CardSeen) Fault)
    → 16 ≤ before → with_cards front (behind slots before) ≡ total → total ≡ Ok front
unfolding cards_from
slots_done slots front before total le so_far =
    let k : 16 - before ≡ 0 = omega arith in
    sym so_far ∙ rw k (ap Ok (append-nil front))

-- ---- that they ascend

pub below_more : (slots : List ℕ) (n : ℕ) → AllByRecursion (λ s. s ≤ n) slots → AllByRecursion (λ s. s ≤ n + 1) slots
below_more [] n h = tt
below_more (s ∷ slots) n h = (omega (arith, h.0), below_more slots n h.1)

pub below_push : (slots : List ℕ) (n : ℕ) → AllByRecursion (λ s. s ≤ n) slots → AllByRecursion (λ s. s ≤ n + 1) (slots ++ (n + 1) ∷ [])
below_push [] n h = (omega arith, tt)
below_push (s ∷ slots) n h = (omega (arith, h.0), below_push slots n h.1)

above_push : (slots : List ℕ) (s n : ℕ) → s ≤ n → AllByRecursion (λ other. s + 1 ≤ other) slots → AllByRecursion (λ other. s + 1 ≤ other) (slots ++ (n + 1) ∷ [])
above_push [] s n le h = (omega arith, tt)
above_push (t ∷ slots) s n le h = (h.0, above_push slots s n le h.1)

pub ascending_push : (slots : List ℕ) (n : ℕ) → AllByRecursion (λ s. s ≤ n) slots → AreAscending slots → AreAscending (slots ++ (n + 1) ∷ [])
ascending_push [] n below h = (tt, tt)
ascending_push (s ∷ slots) n below h = (above_push slots s n below.0 h.0, ascending_push slots n below.1 h.1)

-- ---- a card more, or none

pub seen_next : (cards : List RackCard) (found : Option RackCard) → map card_seen (cards ++ option_to_list found) ≡ map card_seen cards ++ option_to_list (option_map card_seen found)
seen_next cards None = ap (map card_seen) (append-nil cards) ∙ sym (append-nil (map card_seen cards))
seen_next cards (Some card) = map_push card_seen cards card

pub below_next : (cards : List RackCard) (found : Option RackCard) (n : ℕ) → IfSome found (λ card. card.slot ≡ n + 1)
    → AllByRecursion (λ s. s ≤ n) (map (λ card. card.slot) cards) → AllByRecursion (λ s. s ≤ n + 1) (map (λ card. card.slot) (cards ++ option_to_list found))
below_next cards None n is h = rw (append-nil cards) (below_more (map (λ card. card.slot) cards) n h)
below_next cards (Some card) n is h =
    let slots : map (λ (c : RackCard). c.slot) (cards ++ card ∷ []) ≡ map (λ (c : RackCard). c.slot) cards ++ (n + 1) ∷ [] =
    map_push (λ (c : RackCard). c.slot) cards card ∙ ap (λ (s : ℕ). map (λ (c : RackCard). c.slot) cards ++ s ∷ []) is in
    rw slots (below_push (map (λ card. card.slot) cards) n h)

pub ascending_next : (cards : List RackCard) (found : Option RackCard) (n : ℕ) → IfSome found (λ card. card.slot ≡ n + 1)
    → AllByRecursion (λ s. s ≤ n) (map (λ card. card.slot) cards) → AreAscending (map (λ card. card.slot) cards)
    → AreAscending (map (λ card. card.slot) (cards ++ option_to_list found))
ascending_next cards None n is below h = rw (append-nil cards) h
ascending_next cards (Some card) n is below h =
    let slots : map (λ (c : RackCard). c.slot) (cards ++ card ∷ []) ≡ map (λ (c : RackCard). c.slot) cards ++ (n + 1) ∷ [] =
    map_push (λ (c : RackCard). c.slot) cards card ∙ ap (λ (s : ℕ). map (λ (c : RackCard). c.slot) cards ++ s ∷ []) is in
    rw slots (ascending_push (map (λ card. card.slot) cards) n below h)

-- ---- a table that has something

pub filled_is : (es : List Entry) → (length es ≡ 0 → ⊥) → filled (members_view es) ≡ Ok (members_view es)
filled_is [] some = absurd (some refl)
filled_is (e ∷ es) some = refl
