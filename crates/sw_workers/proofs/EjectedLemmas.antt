-- What an eject gives and leaves, and what comes of ejecting slot after slot.
use Rattle.std.specs.Prelude.{◌==◌, ◌&&◌, not}
use Rattle.std.proofs.Common.{◌≡◌, ℕ, ◌+◌, ◌-◌, ◌<◌, ◌≤◌, Bool, true, false, Option, None, Some, List, [], ◌∷◌, ◌++◌, All, IfSome, sym, ap, ◌∙◌, subst, refl, map, ◌⊎◌}
use Rattle.std.specs.List.{AllByRecursion}
use Rattle.std.proofs.Common.{arith, is_some, length, drop, slice_set, slice_index_or}
use Rattle.std.specs.Prelude.{if◌then◌else◌}
use Rattle.std.proofs.lemmas.Bool.{and_right, MatchBool-at_false}
use Rattle.std.proofs.lemmas.List.Elements.{All-from_recursion}
use Rattle.std.proofs.lemmas.List.{map-set, length-map, map_push, append_assoc, append-nil, drop_more, drop-set-lt, drop_all, set-get_or}
use Rattle.sw_base.specs.Limits.{most_slots}
use Rattle.sw_base.specs.Layout.{slot_at}
use Rattle.sw_card.specs.Account.{Account, closed_at, is_meter, none_closed, at_rest}
use Rattle.sw_card.proofs.Rows.{none_is_closed}
use Rattle.sw_cage.specs.Accounts.{Accounts, option_account, accounts_of, option_rest, all_open}
use Rattle.sw_cage.specs.Cage.{CageSeen, safe_state}
use Rattle.sw_cage.specs.Cards.{Cards, meter_only, meters_of}
use Rattle.sw_cage.specs.Good.{IsHeld}
use Rattle.sw_cage.specs.Install.{stopped}
use Rattle.sw_cage.specs.declared.refusal.EjectRefusal.TheVariants.{Vacant, Out}
use Rattle.sw_cage.proofs.SlotChangeLemmas.{slot_rest, slot_get, slot_map}
use Rattle.sw_core.specs.Cards.{Keeps, IsTakenOut}
use Rattle.sw_core.specs.declared.ask.Answer.{Answer}
use Rattle.sw_core.specs.declared.ask.Ask.TheVariants as Ask
use Rattle.sw_core.specs.Good.{IsGoodPanel}
use Rattle.sw_core.specs.Panel.{Panel}
use Rattle.sw_core.specs.Event.{last_number, concluded}
use Rattle.sw_core.specs.Seen.{AskEject, AnswerSeen, SaysEjected, SaysNotEjected, answer_seen}
use Rattle.sw_core.specs.Step.{Step, Acts, IsUnnumbered, IsEvent, acts_unnumbered}
use Rattle.sw_history.specs.Closing.{IsOpen, IsClosedDown}

-- the card that an answer gives
abbrev pub ejected : AnswerSeen → Option Account
ejected (SaysEjected card) = Some card
ejected a = None

-- the card of the slot comes out, with nothing closed, if it has one; the slot is empty, and the others are as they
-- were but for what is closed
pub record Leaves (p : CageSeen) (slot : ℕ) (a : AnswerSeen) (q : CageSeen) : Type 0 where
  pub card : ejected a ≡ slot_at (all_open p.cards) slot
  pub others : all_open q.cards ≡ slice_set (all_open p.cards) (slot - 1) None

none_twice : (l : List Bool) → none_closed (none_closed l) ≡ none_closed l
none_twice [] = refl
none_twice (x ∷ xs) = ap (λ (l : List Bool). false ∷ l) (none_twice xs)

pub rest_twice : (o : Option Account) → option_rest (option_rest o) ≡ option_rest o
rest_twice None = refl
rest_twice (Some a) = ap (λ (l : List Bool). Some (record a { closed = l })) (none_twice a.closed)

pub open_twice : (rack : Accounts) → all_open (all_open rack) ≡ all_open rack
open_twice [] = refl
open_twice (x ∷ xs) = let e = rest_twice x in let es = open_twice xs in cc

-- stopping a scan closes nothing, and takes nothing out
pub stopped_if : (p : CageSeen) (b : Bool) → all_open (if b then safe_state p else p).cards ≡ all_open p.cards
stopped_if p true = open_twice p.cards
stopped_if p false = refl

-- an empty slot stays empty
empty_stays : (rack : Accounts) (slot : ℕ) → 1 ≤ slot → slot_at rack slot ≡ None
    → (None ≡ slot_at (all_open rack) slot) × (all_open rack ≡ slice_set (all_open rack) (slot - 1) None)
empty_stays rack slot some none =
    let here : slot_at (all_open rack) slot ≡ None = slot_rest rack slot ∙ ap option_rest none in
    let index : slice_index_or (all_open rack) (slot - 1) None ≡ None = sym (slot_get (all_open rack) slot some) ∙ here in
    (sym here, sym (set-get_or (all_open rack) (slot - 1) None) ∙ ap (λ (o : Option Account). slice_set (all_open rack) (slot - 1) o) index)

refused : (p q : Panel) (slot : ℕ) (a : AnswerSeen) → ejected a ≡ None → 1 ≤ slot → slot_at p.cage.cards slot ≡ None → q ≡ p
    → Leaves p.cage slot a q.cage
refused p q slot a none some vacant same =
    let e = empty_stays p.cage.cards slot some vacant in record {
      card = none ∙ e.0;
      others = ap (λ (x : Panel). all_open x.cage.cards) same ∙ e.1;
    }

acts_ejects : (p : Panel) (slot : ℕ) (f : Bool) (a : AnswerSeen) (q : Panel) → 1 ≤ slot → IsHeld p.cage → Acts p (AskEject slot) f a q
    → Leaves p.cage slot a
    q.cage
acts_ejects p slot f (SaysEjected card) q some held h = record {
  card = sym h.2;
  others = ap (λ (x : Panel). all_open x.cage.cards) h.3
      ∙ map-set option_rest (stopped p.cage).cards (slot - 1) None
      ∙ ap (λ (rack : Accounts). slice_set rack (slot - 1) None) (stopped_if p.cage (is_some p.cage.scan));
}
acts_ejects p slot f (SaysNotEjected Vacant) q some held h = refused p q slot (SaysNotEjected Vacant) refl some h.1.1 h.2
acts_ejects p slot f (SaysNotEjected Out) q some held h = refused p q slot (SaysNotEjected Out) refl some (held.empty slot h.1) h.2
acts_ejects p slot f a q some held h = absurd h

-- the end of an event changes no cage
concluded_cage : (p : Panel) (slot : ℕ) (f : Bool) (a : AnswerSeen) (q : Panel) → Acts p (AskEject slot) f a q → (concluded a q).cage ≡ q.cage
concluded_cage p slot f (SaysEjected card) q h = refl
concluded_cage p slot f (SaysNotEjected refusal) q h = refl
concluded_cage p slot f a q h = absurd h

pub unnumbered : (n : ℕ) (slot : ℕ) → ((n == last_number) && not (acts_unnumbered (AskEject slot))) ≡ false
unnumbered n slot = and_right (n == last_number) false refl

-- what an eject that is asked does
pub step_ejects : (p : Panel) (slot : ℕ) (f : Bool) (a : AnswerSeen) (q : Panel) → 1 ≤ slot → IsGoodPanel p → Step p (AskEject slot) f a q
    → Leaves p.cage slot
    a q.cage
step_ejects p slot f a q some good s =
    let e : IsEvent p (AskEject slot) f a q = MatchBool-at_false (IsUnnumbered p (AskEject slot) f a q) (IsEvent p (AskEject slot) f a q)
    (unnumbered p.events slot) s in
    let there : q.cage ≡ e.done.cage = ap (λ (x : Panel). x.cage) e.after ∙ concluded_cage p slot f a e.done e.acts in
    subst (λ (c : CageSeen). Leaves p.cage slot a c) (sym there) (acts_ejects p slot f a e.done some good.good.held e.acts)

-- an answer of another kind gives no card
pub not_ejected : {R M : _} (a : Answer R M) → ((card : _) → a ≡ Answer.Ejected card → ⊥) → ejected (answer_seen a) ≡ None
not_ejected (Answer.Ejected card) not = absurd (not card refl)
not_ejected a not = refl

-- what was seen so far, and what is still to come, is the whole: so too with one more
pub one_out : {A B : Type 0} (f : A → Option B) (items more : List A) (item : A) (before : ℕ) (old new whole : List (Option B))
    → map f items ++ drop before old ≡ whole → f item ≡ slot_at old (before + 1) → new ≡ slice_set old (before + 1 - 1) None
    → before < length old → more ≡ items ++ item ∷ [] → map f more ++ drop (before + 1) new ≡ whole
one_out {A} {B} f items more item before old new whole so_far here others within is =
    let at : before + 1 - 1 ≡ before = omega arith in
    let first : slot_at old (before + 1) ≡ slice_index_or old before None = slot_get old (before + 1) (omega arith)
    ∙ ap (λ (i : ℕ). slice_index_or old i None) at in
    let rest : drop (before + 1) new ≡ drop (before + 1) old = ap (λ (l : List (Option B)). drop (before + 1) l) others
    ∙ ap (λ (i : ℕ). drop (before + 1) (slice_set old i None)) at ∙ drop-set-lt (before + 1) old before None (omega arith) in
    let told : map f more ≡ map f items ++ f item ∷ [] = ap (λ (l : List A). map f l) is ∙ map_push f items item in
    let left : f item ∷ drop (before + 1) new ≡ drop before old =
    ap (λ (o : Option B). o ∷ drop (before + 1) new) (here ∙ first)
    ∙ ap (λ (l : List (Option B)). slice_index_or old before None ∷ l) rest ∙ sym (drop_more old before None within) in
    ap (λ (l : List (Option B)). l ++ drop (before + 1) new) told
    ∙ append_assoc (map f items) (f item ∷ []) (drop (before + 1) new)
    ∙ ap (λ (l : List (Option B)). map f items ++ l) left ∙ so_far

-- once nothing is left, that is the whole
pub all_out : {A B : Type 0} (f : A → Option B) (items : List A) (before : ℕ) (old whole : List (Option B)) → map f items ++ drop before old ≡ whole
    → length old ≤ before → map f items ≡ whole
all_out {A} {B} f items before old whole so_far past =
    sym (append-nil (map f items)) ∙ ap (λ (l : List (Option B)). map f items ++ l) (sym (drop_all before old past)) ∙ so_far

-- as many slots as there are, whatever is open
pub good_slots : (p : Panel) → IsGoodPanel p → length (all_open p.cage.cards) ≡ most_slots
good_slots p good = length-map p.cage.cards option_rest ∙ good.good.held.slots

-- as many places for meters
pub meter_slots : {C : Type 0} (p : Panel) (cards : Cards C) → IsGoodPanel p → p.cage.cards ≡ accounts_of cards
    → length (meters_of cards) ≡ most_slots
meter_slots p cards good same =
    length-map cards meter_only ∙ sym (length-map cards option_account) ∙ ap length (sym same) ∙ good.good.held.slots

-- where the slot is empty, no meter is in it
no_meter : {C : Type 0} (o : Option (C × Account)) → option_rest (option_account o) ≡ None → meter_only o ≡ None
no_meter None h = refl
no_meter (Some card) h = absurd (let e : Some (at_rest card.1) ≡ None = h in cc e)

same_if_meter : {C : Type 0} (x card : C × Account) (b : Bool) → is_meter x.1 ≡ b → is_meter card.1 ≡ b → (b ≡ true → Some x ≡ Some card)
    → meter_only (Some card) ≡ meter_only (Some x)
same_if_meter {C} x card true e f same = sym (ap (λ (o : Option (C × Account)). meter_only o) (same refl))
same_if_meter x card false e f same = ap (λ (b : Bool). if b then Some card else None) f ∙ sym (ap (λ (b : Bool). if b then Some x else None) e)

-- what comes out is a meter exactly where the slot has one
is_there : {C : Type 0} (o : Option (C × Account)) (card : C × Account) → option_rest (option_account o) ≡ Some card.1
    → (is_meter card.1 ≡ true → o ≡ Some card) → meter_only (Some card) ≡ meter_only o
is_there None card h very = absurd (let e : None ≡ Some card.1 = h in cc e)
is_there (Some x) card h very =
    let e : Some (at_rest x.1) ≡ Some card.1 = h in
    let rested : at_rest x.1 ≡ card.1 = cc e in same_if_meter x card (is_meter card.1) (ap is_meter rested) refl very

-- the meter that an eject gives is the very one of its slot, which is empty then
pub record MeterLeaves {C : Type 0} (old : Cards C) (slot : ℕ) (given : Option (C × Account)) (new : Cards C) : Type 0 where
  pub very : meter_only given ≡ slot_at (meters_of old) slot
  pub others : meters_of new ≡ slice_set (meters_of old) (slot - 1) None

at_rest_there : {C : Type 0} (old : Cards C) (p : CageSeen) (slot : ℕ) → p.cards ≡ accounts_of old
    → slot_at (all_open p.cards) slot ≡ option_rest (option_account (slot_at old slot))
at_rest_there old p slot same =
    ap (λ (rack : Accounts). slot_at (all_open rack) slot) same ∙ slot_rest (accounts_of old) slot
    ∙ ap option_rest (slot_map option_account old slot refl)

pub meter_comes_out : {R M : Type 0} (old new : Cards (R ⊎ M)) (p : CageSeen) (slot : ℕ) (card : (R ⊎ M) × Account) → p.cards ≡ accounts_of old
    → Some card.1 ≡ slot_at (all_open p.cards) slot → IsTakenOut old slot card new → MeterLeaves old slot (Some card) new
meter_comes_out old new p slot card same here out = record {
  very = is_there (slot_at old slot) card (sym (here ∙ at_rest_there old p slot same)) out.very ∙ sym (slot_map meter_only old slot refl);
  others = out.others;
}

pub no_meter_comes_out : {R M : Type 0} (old new : Cards (R ⊎ M)) (p : CageSeen) (slot : ℕ) (answer : Answer R M) → 1 ≤ slot
    → p.cards ≡ accounts_of old
    → ((card : _) → answer ≡ Answer.Ejected card → ⊥) → None ≡ slot_at (all_open p.cards) slot → Keeps old (Ask.Eject slot) answer new
    → MeterLeaves old slot None new
no_meter_comes_out old new p slot (Answer.Ejected card) some same not here k = absurd (not card refl)
no_meter_comes_out {R} {M} old new p slot answer some same not here k =
    let none : slot_at (meters_of old) slot ≡ None = slot_map meter_only old slot refl
    ∙ no_meter (slot_at old slot) (sym (here ∙ at_rest_there old p slot same)) in
    let index : slice_index_or (meters_of old) (slot - 1) None ≡ None = sym (slot_get (meters_of old) slot some) ∙ none in record {
      very = sym none;
      others = k ∙ sym (set-get_or (meters_of old) (slot - 1) None)
          ∙ ap (λ (o : Option ((R ⊎ M) × Account)). slice_set (meters_of old) (slot - 1) o) index;
    }

some_open : (card a : Account) → card ≡ at_rest a → IsOpen card
some_open card a is = λ ch. ap (λ (x : Account). closed_at x.closed ch) is ∙ none_is_closed a.closed ch

-- where all cards come at rest, no channel of theirs is closed
come_open : {C : Type 0} (items : List (Option (C × Account))) (rack : Accounts) → accounts_of items ≡ all_open rack
    → AllByRecursion (λ slot. IfSome slot (λ card. IsOpen card.1)) items
come_open [] rack is = tt
come_open (None ∷ items) [] is = absurd (cc is)
come_open (None ∷ items) (o ∷ rack) is = (tt, come_open items rack (cc is))
come_open (Some card ∷ items) [] is = absurd (cc is)
come_open (Some card ∷ items) (None ∷ rack) is = absurd (cc is)
come_open (Some card ∷ items) (Some a ∷ rack) is = (some_open card.1 a (cc is), come_open items rack (cc is))

pub closed_open : {C : Type 0} (start : Panel) (events : ℕ) (items : List (Option (C × Account))) → IsClosedDown start events (accounts_of items)
    → All (λ slot. IfSome slot (λ card. IsOpen card.1)) items
closed_open start events items c =
    All-from_recursion (λ slot. IfSome slot (λ card. IsOpen card.1)) items (come_open items c.panel.cage.cards c.by_slot)
