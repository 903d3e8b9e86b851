-- One card more, and what cards lead to.
use Rattle.std.proofs.Common.{◌≡◌, ◌≤◌, ◌<◌, ◌+◌, ◌-◌, ◌==◌, ◌&&◌, not, Bool, true, false, MatchBool, List, [], ◌∷◌, ◌++◌, length, refl, sym, ap, subst, ◌∙◌}
use Rattle.std.proofs.Common.{Some, arith, take, drop, get_or}
use Rattle.std.specs.Prelude.{slice_set}
use Rattle.std.proofs.lemmas.List.{length_push, take-append-drop, drop_more}
use Rattle.sw_card.specs.Account.{Account}
use Rattle.sw_cage.specs.Install.{CanInstall, RefusesInstall}
use Rattle.sw_cage.specs.declared.refusal.InstallRefusal.{InstallRefusal}
use Rattle.sw_core.specs.Event.{last_number, next_number}
use Rattle.sw_core.specs.Opening.{IsFresh, RunsGoOn}
use Rattle.sw_core.specs.Panel.{Panel}
use Rattle.sw_core.specs.Run.{Event}
use Rattle.sw_core.specs.Seen.{AskInstall, SaysInstalled}
use Rattle.sw_core.specs.Step.{Step, IsEvent, IsUnnumbered, acts_unnumbered}
use Rattle.sw_serve.specs.declared.slot_card.SlotCard.{SlotCard}
use Rattle.sw_serve.specs.SlotCards.{PlacedCard, placed, own_seen, cards_seen, Takes, TakesCards, RefusesCard}

-- what a card that is taken leaves
pub record Taken (p : Panel) (o : PlacedCard) (q : Panel) : Type 0 where
  pub can : CanInstall p.cage.cards o.slot o.card
  pub cards : q.cage.cards ≡ slice_set p.cage.cards (o.slot - 1) (Some o.card)
  pub out : q.cage.out ≡ p.cage.out
  pub scan : q.cage.scan ≡ p.cage.scan
  pub events : q.events ≡ next_number p.events

taken_by : (b : Bool) (p : Panel) (o : PlacedCard) (f : Bool) (q : Panel)
    → MatchBool b (IsUnnumbered p (AskInstall o.slot o.card) f SaysInstalled q) (IsEvent p (AskInstall o.slot o.card) f SaysInstalled q) → Taken p o q
taken_by true p o f q s = absurd s.worn
taken_by false p o f q s = record {
  can = s.acts.3;
  cards = ap (λ (x : Panel). x.cage.cards) s.after ∙ ap (λ (x : Panel). x.cage.cards) s.acts.4;
  out = ap (λ (x : Panel). x.cage.out) s.after ∙ ap (λ (x : Panel). x.cage.out) s.acts.4;
  scan = ap (λ (x : Panel). x.cage.scan) s.after ∙ ap (λ (x : Panel). x.cage.scan) s.acts.4;
  events = ap (λ (x : Panel). x.events) s.after ∙ ap (λ (x : Panel). next_number x.events) s.acts.4;
}

pub taken : (p : Panel) (o : PlacedCard) (q : Panel) → Takes p o q → Taken p o q
taken p o q t = taken_by ((p.events == last_number) && not (acts_unnumbered (AskInstall o.slot o.card))) p o t.failed q t.step

-- one card more
pub takes-more : (p m q : Panel) (cards : List PlacedCard) (o : PlacedCard) → TakesCards p cards m → Takes m o q → TakesCards p (cards ++ o ∷ []) q
takes-more p m q [] o is step = (q, subst (λ (x : Panel). Takes x o q) is step, refl)
takes-more p m q (x ∷ cards) o (mid, first, more) step = (mid, first, takes-more mid m q cards o more step)

pub seen-more : {R M : Type 0} (relays : R → Account) (meters : M → Account) (cards : List (SlotCard R M)) (o : SlotCard R M)
    → cards_seen relays meters (cards ++ o ∷ []) ≡ cards_seen relays meters cards ++ placed o.slot (own_seen relays meters o.card) ∷ []
seen-more relays meters [] o = refl
seen-more relays meters (x ∷ cards) o = ap (λ l. placed x.slot (own_seen relays meters x.card) ∷ l) (seen-more relays meters cards o)

pub seen-both : {R M : Type 0} (relays : R → Account) (meters : M → Account) (header back : List (SlotCard R M))
    → cards_seen relays meters (header ++ back) ≡ cards_seen relays meters header ++ cards_seen relays meters back
seen-both relays meters [] back = refl
seen-both relays meters (x ∷ header) back = ap (λ l. placed x.slot (own_seen relays meters x.card) ∷ l) (seen-both relays meters header back)

-- a mainframe has taken the cards so far, and counted no more events than they are
pub record TakesSoFar {R M : Type 0} (relays : R → Account) (meters : M → Account) (p : Panel) (cards : List (SlotCard R M)) (q : Panel) : Type 0 where
  pub takes : TakesCards p (cards_seen relays meters cards) q
  pub few : q.events ≤ p.events + length cards

pub so_far-none : {R M : Type 0} (relays : R → Account) (meters : M → Account) (p : Panel) → TakesSoFar relays meters p [] p
so_far-none relays meters p = record { takes = refl; few = omega arith }

pub so_far-more : {R M : Type 0} (relays : R → Account) (meters : M → Account) (p m q : Panel) (cards : List (SlotCard R M)) (o : SlotCard R M) (card : Account)
    → card ≡ own_seen relays meters o.card → TakesSoFar relays meters p cards m → Takes m (placed o.slot card) q
    → TakesSoFar relays meters p (cards ++ o ∷ []) q
so_far-more relays meters p m q cards o card is so step =
    let own = subst (λ (x : Account). Takes m (placed o.slot x) q) is step in
    let one = taken m (placed o.slot card) q step in
    record {
      takes = subst (λ (l : List PlacedCard). TakesCards p l q) (sym (seen-more relays meters cards o))
          (takes-more p m q (cards_seen relays meters cards) (placed o.slot (own_seen relays meters o.card)) so.takes own);
      few = omega (arith, so.few, one.events, length_push cards o);
    }

-- the card that comes next is refused
split_at : {A : Type 0} (header all : List A) (x : A) → header ≡ take (length header) all → length header < length all → x ≡ get_or all (length header) x
    → all ≡ header ++ x ∷ drop (length header + 1) all
split_at header all x is within next =
    let n = length header in
    sym (take-append-drop n all) ∙ ap (λ l. take n all ++ l) (drop_more all n x within) ∙ ap (λ l. l ++ get_or all n x ∷ drop (n + 1) all) (sym is)
    ∙ ap (λ y. header ++ y ∷ drop (n + 1) all) (sym next)

pub refuses-next : {R M : Type 0} (relays : R → Account) (meters : M → Account) (p m : Panel) (header all : List (SlotCard R M)) (o : SlotCard R M)
    (card : Account)
    (why : InstallRefusal) → header ≡ take (length header) all → length header < length all → o ≡ get_or all (length header) o
    → card ≡ own_seen relays meters o.card → TakesSoFar relays meters p header m → RefusesInstall m.cage o.slot card why
    → RefusesCard p (cards_seen relays meters all) o.slot why
refuses-next relays meters p m header all o card why is within next own so refuses =
    let rest = drop (length header + 1) all in
    record {
      before = cards_seen relays meters header;
      card = card;
      behind = cards_seen relays meters rest;
      listed = ap (cards_seen relays meters) (split_at header all o is within next) ∙ seen-both relays meters header (o ∷ rest)
          ∙ ap (λ a. cards_seen relays meters header ++ placed o.slot a ∷ cards_seen relays meters rest) (sym own);
      last = m;
      takes = so.takes;
      refuses = refuses;
    }

-- a fresh mainframe that takes a card is fresh
fresh-step : (p : Panel) (o : PlacedCard) (q : Panel) → RunsGoOn → Takes p o q → IsFresh p → IsFresh q
fresh-step p o q law t fresh =
    let e : Event = record { ask = AskInstall o.slot o.card; answer = SaysInstalled; panel = q } in
    law.installed p e fresh refl (record {
      own = t.own;
      step = subst (λ (f : Bool). Step p (AskInstall o.slot o.card) f SaysInstalled q) t.counted t.step;
    })

pub fresh-cards : RunsGoOn → (p q : Panel) (cards : List PlacedCard) → TakesCards p cards q → IsFresh p → IsFresh q
fresh-cards law p q [] is fresh = subst IsFresh (sym is) fresh
fresh-cards law p q (o ∷ cards) (mid, first, more) fresh = fresh-cards law mid q cards more (fresh-step p o mid law first fresh)

-- one card more on both sides
pub told-more : {R M S N : Type 0} (relays : R → Account) (meters : M → Account) (relays' : S → Account) (meters' : N → Account)
    (told new : List (SlotCard S N)) (cards : List (SlotCard R M)) (t : SlotCard S N) (o : SlotCard R M) → new ≡ told ++ t ∷ [] → t.slot ≡ o.slot → own_seen
    relays' meters' t.card ≡ own_seen relays meters o.card
    → cards_seen relays' meters' told ≡ cards_seen relays meters cards
    → cards_seen relays' meters' new ≡ cards_seen relays meters (cards ++ o ∷ [])
told-more relays meters relays' meters' told new cards t o is slot card same =
    let both : cards_seen relays' meters' told ++ placed t.slot (own_seen relays' meters' t.card) ∷ []
    ≡ cards_seen relays meters cards ++ placed o.slot (own_seen relays meters o.card) ∷ [] = λ j. same j ++ placed (slot j) (card j) ∷ [] in
    ap (cards_seen relays' meters') is ∙ seen-more relays' meters' told t ∙ both ∙ sym (seen-more relays meters cards o)
