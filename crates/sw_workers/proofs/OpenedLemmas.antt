-- A card that comes out of its slot and goes back, and what comes of doing so with slot after slot.
use Rattle.std.specs.Prelude.{◌==◌, ◌&&◌, not}
use Rattle.std.proofs.Common.{◌≡◌, ◌≢◌, ℕ, ◌+◌, ◌-◌, ◌*◌, ◌<◌, ◌≤◌, ◌⊎◌, inl, inr, Bool, true, false, Option, None, Some, List, sym, ap, ◌∙◌, subst, refl}
use Rattle.std.proofs.Common.{arith, is_some, length, slice_set, if◌then◌else◌}
use Rattle.std.proofs.lemmas.Bool.{cases_eq, cases_Bool, eqb-true, and_parts, MatchBool-at_true, MatchBool-at_false}
use Rattle.std.proofs.lemmas.List.{map-set, length-map, set-set, set-get_or}
use Rattle.sw_base.specs.Limits.{most_slots, most_channels}
use Rattle.sw_base.specs.Layout.{Channel, slot_at}
use Rattle.sw_card.specs.Account.{Account, closed_at, is_meter, at_rest}
use Rattle.sw_cage.specs.Accounts.{Accounts, option_rest, option_closed, is_closed, all_open}
use Rattle.sw_cage.specs.Cage.{CageSeen, safe_state}
use Rattle.sw_cage.specs.declared.job.Ticket.{Ticket}
use Rattle.sw_cage.specs.Install.{stopped, without_card, RefusesInstall, IsUnfit}
use Rattle.sw_cage.specs.declared.refusal.InstallRefusal.{InstallRefusal}
use Rattle.sw_cage.specs.declared.refusal.InstallRefusal.TheVariants.{Busy, Occupied, BadLayout}
use Rattle.sw_cage.specs.declared.refusal.EjectRefusal.TheVariants.{Vacant, Out}
use Rattle.sw_cage.proofs.SlotChangeLemmas.{slot_rest, slot_get, slot_set_same, slot_cases, all_open_closed, is_none, closed_slot, some_slot}
use Rattle.sw_core.specs.Event.{last_number, next_number, concluded}
use Rattle.sw_core.specs.Good.{IsGoodPanel, OptionFew}
use Rattle.sw_core.specs.Panel.{Panel, with_cards}
use Rattle.sw_core.specs.Seen.{AskEject, AskInstall, AnswerSeen, SaysEjected, SaysNotEjected, SaysInstalled, SaysNotInstalled}
use Rattle.sw_core.specs.Step.{Step, Acts, IsUnnumbered, IsEvent, acts_unnumbered}
use Rattle.sw_history.specs.Opened.{HaveChannels, Reopens, IsOpened}
use Rattle.sw_workers.proofs.EjectedLemmas.{ejected, unnumbered, stopped_if, rest_twice}

-- one more event, or none
one_event : (n : ℕ) → next_number n ≤ n + 1
one_event n = omega arith

-- the card of the slot came out, or it has none and the cage is as it was
pub data OutOf (p : Panel) (slot : ℕ) (a : AnswerSeen) (q : Panel) : Type 0 where
  CameOut : (card : Account) → a ≡ SaysEjected card → slot_at p.cage.out slot ≡ None → slot_at (all_open p.cage.cards) slot ≡ Some card
      → q.cage ≡ without_card (stopped p.cage) slot → OutOf p slot a q
  WasVacant : ejected a ≡ None → slot_at p.cage.cards slot ≡ None → q.cage ≡ p.cage → OutOf p slot a q

out_done : (p : Panel) (slot : ℕ) (f : Bool) (a : AnswerSeen) (d : Panel) → IsGoodPanel p → Acts p (AskEject slot) f a d
    → OutOf p slot a (concluded a d) × (d.events ≡ p.events) × (concluded a d).events ≤ d.events + 1
out_done p slot f (SaysEjected card) d good h =
    (CameOut card refl h.1 h.2 (ap (λ (x : Panel). x.cage) h.3), ap (λ (x : Panel). x.events) h.3, one_event d.events)
out_done p slot f (SaysNotEjected Vacant) d good h =
    (WasVacant refl h.1.1 (ap (λ (x : Panel). x.cage) h.2), ap (λ (x : Panel). x.events) h.2, one_event d.events)
out_done p slot f (SaysNotEjected Out) d good h =
    (WasVacant refl (good.good.held.empty slot h.1) (ap (λ (x : Panel). x.cage) h.2), ap (λ (x : Panel). x.events) h.2, one_event d.events)
out_done p slot f a d good h = absurd h

-- what an eject does
pub step_out : (p : Panel) (slot : ℕ) (f : Bool) (a : AnswerSeen) (q : Panel) → IsGoodPanel p → Step p (AskEject slot) f a q
    → OutOf p slot a q × q.events ≤ p.events + 1
step_out p slot f a q good s =
    let e : IsEvent p (AskEject slot) f a q = MatchBool-at_false (IsUnnumbered p (AskEject slot) f a q) (IsEvent p (AskEject slot) f a q)
    (unnumbered p.events slot) s in
    let d = out_done p slot f a e.done good e.acts in
    let events : q.events ≤ p.events + 1 = rw e.after (omega (arith, d.1, d.2)) in
    (subst (λ (x : Panel). OutOf p slot a x) (sym e.after) d.0, events)

-- the card went into the slot, or it was refused, or no more events can be numbered
pub data InTo (p : Panel) (slot : ℕ) (card : Account) (q : Panel) : Type 0 where
  WentIn : q.cage ≡ (with_cards p (slice_set p.cage.cards (slot - 1) (Some card))).cage → InTo p slot card q
  StayedOut : q.cage ≡ p.cage → (refusal : InstallRefusal) → RefusesInstall p.cage slot card refusal → InTo p slot card q
  HasNoNumber : q.cage ≡ p.cage → p.events ≡ last_number → InTo p slot card q

in_done : (p : Panel) (slot : ℕ) (card : Account) (f : Bool) (a : AnswerSeen) (d : Panel) → Acts p (AskInstall slot card) f a d
    → InTo p slot card (concluded a d) × (d.events ≡ p.events) × (concluded a d).events ≤ d.events + 1
in_done p slot card f SaysInstalled d h =
    (WentIn (ap (λ (x : Panel). x.cage) h.4), ap (λ (x : Panel). x.events) h.4, one_event d.events)
in_done p slot card f (SaysNotInstalled refusal) d h =
    (StayedOut (ap (λ (x : Panel). x.cage) h.2) refusal h.1, ap (λ (x : Panel). x.events) h.2, one_event d.events)
in_done p slot card f a d h = absurd h

-- what an install does
pub step_in : (p : Panel) (slot : ℕ) (card : Account) (f : Bool) (a : AnswerSeen) (q : Panel) → Step p (AskInstall slot card) f a q
    → InTo p slot card q × q.events ≤ p.events + 1
step_in p slot card f a q s = elim (cases_Bool ((p.events == last_number) && not (acts_unnumbered (AskInstall slot card)))) [
  | inl at_last ↦ (
      let last : p.events ≡ last_number = eqb-true p.events last_number (and_parts (p.events == last_number) true at_last).0 in
      let u : IsUnnumbered p (AskInstall slot card) f a q = MatchBool-at_true (IsUnnumbered p (AskInstall slot card) f a q) (IsEvent p (AskInstall slot card) f a q)
      at_last s in
      (HasNoNumber (ap (λ (x : Panel). x.cage) u.same) last, rw u.same (omega arith))
      )
  | inr not_last ↦ (
      let e : IsEvent p (AskInstall slot card) f a q = MatchBool-at_false (IsUnnumbered p (AskInstall slot card) f a q) (IsEvent p (AskInstall slot card) f a q)
      not_last s in
      let d = in_done p slot card f a e.done e.acts in
      (subst (λ (x : Panel). InTo p slot card x) (sym e.after) d.0, rw e.after (omega (arith, d.1, d.2)))
      )
]

vacant_is_open : (p : Panel) (slot : ℕ) (c : Channel) → slot_at p.cage.cards slot ≡ None → is_closed p.cage.cards c ≡ true → c.0 ≢ slot
vacant_is_open p slot c vacant closed = λ here.
    let none : is_closed p.cage.cards c ≡ false = ap (λ (o : Option Account). option_closed o c.1) (ap (λ (s : ℕ). slot_at p.cage.cards s) here ∙ vacant) in
    absurd (cc)

-- a slot that has no card stays as it is
pub reopens_vacant : (p : Panel) (slot : ℕ) (q : Panel) → slot_at p.cage.cards slot ≡ None → q.cage ≡ p.cage → q.events ≤ p.events + 1
    → Reopens p slot q
reopens_vacant p slot q vacant same few = record {
  closed = λ c k. let was : is_closed p.cage.cards c ≡ true = sym (ap (λ (x : CageSeen). is_closed x.cards c) same) ∙ k in (was, vacant_is_open p slot c vacant was);
  events = omega (arith, few);
  back = λ numbered have. ap (λ (x : CageSeen). all_open x.cards) same;
  idle = inr (vacant, same);
}

-- what was stopped has closed only what was closed before
stopped_closed : (p : CageSeen) (b : Bool) (c : Channel) → is_closed (if b then safe_state p else p).cards c ≡ true → is_closed p.cards c ≡ true
stopped_closed p true c k = let e = all_open_closed p.cards c in absurd (cc)
stopped_closed p false c k = k

idle_if : (p : CageSeen) (b : Bool) → is_some p.scan ≡ b → (if b then safe_state p else p).scan ≡ None
idle_if p true is = refl
idle_if p false is = is_none p.scan is

stopped_idle : (p : CageSeen) → (stopped p).scan ≡ None
stopped_idle p = idle_if p (is_some p.scan) refl

stopped_length : (p : CageSeen) (b : Bool) → length (if b then safe_state p else p).cards ≡ length p.cards
stopped_length p true = length-map p.cards option_rest
stopped_length p false = refl

-- one slot has another card, with nothing closed: what is closed then was closed before, elsewhere
others_closed : (rack old : Accounts) (slot : ℕ) (v : Option Account) → 0 < slot → slot ≤ length rack → ((k : ℕ) → option_closed v k ≡ false)
    → ((c : Channel) → is_closed rack c ≡ true → is_closed old c ≡ true) → (c : Channel) → is_closed (slice_set rack (slot - 1) v) c ≡ true
    → (is_closed old c ≡ true) × (c.0 ≢ slot)
others_closed rack old slot v some within quiet less c k = elim (slot_cases rack slot c.0 v some within) [
  | inl same ↦ (
      let none : is_closed (slice_set rack (slot - 1) v) c ≡ false = ap (λ (o : Option Account). option_closed o c.1) same.1 ∙ quiet c.1 in absurd (cc)
      )
  | inr other ↦ (less c (sym (ap (λ (o : Option Account). option_closed o c.1) other.1) ∙ k), other.0)
]

-- an open card has nothing closed
quiet_card : (p : Panel) (slot : ℕ) (card : Account) → slot_at (all_open p.cage.cards) slot ≡ Some card → (k : ℕ) → closed_at card.closed k ≡ false
quiet_card p slot card is = λ k.
    let e : is_closed (all_open p.cage.cards) (slot, k) ≡ false = all_open_closed p.cage.cards (slot, k) in
    sym (ap (λ (o : Option Account). option_closed o k) is) ∙ e

-- a card that came out of its slot went back
pub reopens_back : (p mid q : Panel) (slot : ℕ) (card : Account) → 1 ≤ slot → slot ≤ length p.cage.cards → slot_at (all_open p.cage.cards) slot ≡ Some card
    → mid.cage ≡ without_card (stopped p.cage) slot → q.cage ≡ (with_cards mid (slice_set mid.cage.cards (slot - 1) (Some card))).cage
    → q.events ≤ p.events + 2 → Reopens p slot q
reopens_back p mid q slot card some within is out into few =
    let rack : Accounts = (stopped p.cage).cards in
    let size : length rack ≡ length p.cage.cards = stopped_length p.cage (is_some p.cage.scan) in
    let cards : q.cage.cards ≡ slice_set rack (slot - 1) (Some card) = ap (λ (x : CageSeen). x.cards) into
    ∙ ap (λ (x : CageSeen). slice_set x.cards (slot - 1) (Some card)) out ∙ set-set rack (slot - 1) None (Some card) in
    let scan : q.cage.scan ≡ None = ap (λ (x : CageSeen). x.scan) into ∙ ap (λ (x : CageSeen). x.scan) out ∙ stopped_idle p.cage in
    let rest : option_rest (Some card) ≡ slot_at (all_open p.cage.cards) slot =
    ap option_rest (sym is) ∙ ap option_rest (slot_rest p.cage.cards slot) ∙ rest_twice (slot_at p.cage.cards slot) ∙ sym (slot_rest p.cage.cards slot) in
    record {
      closed = λ c k. others_closed rack p.cage.cards slot (Some card) some (rw size within) (quiet_card p slot card is)
          (stopped_closed p.cage (is_some p.cage.scan)) c (sym (ap (λ (l : Accounts). is_closed l c) cards) ∙ k);
      events = few;
      back = λ numbered have. ap all_open cards ∙ map-set option_rest rack (slot - 1) (Some card)
          ∙ ap (λ (l : Accounts). slice_set l (slot - 1) (option_rest (Some card))) (stopped_if p.cage (is_some p.cage.scan))
          ∙ ap (λ (o : Option Account). slice_set (all_open p.cage.cards) (slot - 1) o) (rest ∙ slot_get (all_open p.cage.cards) slot some)
          ∙ set-get_or (all_open p.cage.cards) (slot - 1) None;
      idle = inl scan;
    }

-- a card that is at rest has as many channels as the one that was in the slot
rest_of : (o : Option Account) (card : Account) → option_rest o ≡ Some card
    → (a : Account) × (o ≡ Some a) × (card.groups ≡ a.groups) × (is_meter card ≡ is_meter a)
rest_of None card is = absurd (cc is)
rest_of (Some a) card is = (a, refl, cc is, cc is)

stopped_out : (p : CageSeen) (b : Bool) → (if b then safe_state p else p).out ≡ p.out
stopped_out p true = refl
stopped_out p false = refl

-- a card that was in its slot is fit for it
never_unfit : (p : Panel) (slot : ℕ) (card : Account) → IsGoodPanel p → slot_at (all_open p.cage.cards) slot ≡ Some card → HaveChannels p.cage.cards
    → is_meter card ≡ false → IsUnfit card → ⊥
never_unfit p slot card good is have relays unfit =
    let r = rest_of (slot_at p.cage.cards slot) card (sym (slot_rest p.cage.cards slot) ∙ is) in
    let was : is_meter r.0 ≡ false = sym r.3 ∙ relays in
    let some : 1 ≤ length r.0.groups = have slot r.0 r.1 was in
    let few : OptionFew (Some r.0) = subst OptionFew r.1 (good.few slot) in
    let size : length card.groups ≡ length r.0.groups = ap length r.2 in
    elim unfit [
      | inl none ↦ omega (arith, none, size, some)
      | inr (inl many) ↦ (let most : length r.0.groups ≤ most_channels = few was in omega (arith, many, size, most))
      | inr (inr closed) ↦ (let none = quiet_card p slot card is closed.0 in let one = closed.1 in absurd (cc))
    ]

-- no install of a card that was in its slot is refused
never_refused : (p mid : Panel) (slot : ℕ) (card : Account) (refusal : InstallRefusal) → IsGoodPanel p → 1 ≤ slot → slot ≤ most_slots
    → slot_at p.cage.out slot ≡ None → slot_at (all_open p.cage.cards) slot ≡ Some card → mid.cage ≡ without_card (stopped p.cage) slot
    → HaveChannels p.cage.cards → RefusesInstall mid.cage slot card refusal → ⊥
never_refused p mid slot card Busy good some within empty is out have r =
    let idle : mid.cage.scan ≡ None = ap (λ (x : CageSeen). x.scan) out ∙ stopped_idle p.cage in absurd (cc)
never_refused p mid slot card Occupied good some within empty is out have r =
    let gone : slot_at mid.cage.out slot ≡ None = ap (λ (x : CageSeen). slot_at x.out slot) out
    ∙ ap (λ (l : List (Option Ticket)). slot_at l slot) (stopped_out p.cage (is_some p.cage.scan)) ∙ empty in
    let size : slot ≤ length (stopped p.cage).cards = omega (arith, within, stopped_length p.cage (is_some p.cage.scan), good.good.held.slots) in
    let vacant : slot_at mid.cage.cards slot ≡ None = ap (λ (x : CageSeen). slot_at x.cards slot) out
    ∙ slot_set_same (stopped p.cage).cards slot None some size in
    elim r.1 [ inl there ↦ absurd (cc) | inr there ↦ absurd (cc) ]
never_refused p mid slot card BadLayout good some within empty is out have r = elim r.3 [
  | inl first ↦ omega (arith, first, some)
  | inr (inl last) ↦ omega (arith, last, within)
  | inr (inr unfit) ↦ never_unfit p slot card good is have unfit.0 unfit.1
]

-- a card that came out of its slot stayed out
pub reopens_out : (p mid q : Panel) (slot : ℕ) (card : Account) → IsGoodPanel p → 1 ≤ slot → slot ≤ most_slots → slot_at p.cage.out slot ≡ None
    → slot_at (all_open p.cage.cards) slot ≡ Some card → mid.cage ≡ without_card (stopped p.cage) slot → q.cage ≡ mid.cage → q.events ≤ p.events + 2
    → (p.events + 2 ≤ last_number → HaveChannels p.cage.cards → ⊥) → Reopens p slot q
reopens_out p mid q slot card good some within empty is out same few never =
    let rack : Accounts = (stopped p.cage).cards in
    let size : slot ≤ length rack = omega (arith, within, stopped_length p.cage (is_some p.cage.scan), good.good.held.slots) in
    let cards : q.cage.cards ≡ slice_set rack (slot - 1) None = ap (λ (x : CageSeen). x.cards) same ∙ ap (λ (x : CageSeen). x.cards) out in
    record {
      closed = λ c k. others_closed rack p.cage.cards slot None some size (λ _. refl) (stopped_closed p.cage (is_some p.cage.scan)) c
          (sym (ap (λ (l : Accounts). is_closed l c) cards) ∙ k);
      events = few;
      back = λ numbered have. absurd (never numbered have);
      idle = inl (ap (λ (x : CageSeen). x.scan) same ∙ ap (λ (x : CageSeen). x.scan) out ∙ stopped_idle p.cage);
    }

-- one slot whose card came out
pub reopens : (p mid q : Panel) (slot : ℕ) (card : Account) → IsGoodPanel p → 1 ≤ slot → slot ≤ most_slots → OutOf p slot (SaysEjected card) mid
    → mid.events ≤ p.events + 1 → InTo mid slot card q → q.events ≤ mid.events + 1 → Reopens p slot q
reopens p mid q slot card good some within (CameOut x same empty is out) more (WentIn into) most =
    let x_is : slot_at (all_open p.cage.cards) slot ≡ Some card = is ∙ ap Some (cc same) in
    reopens_back p mid q slot card some (rw good.good.held.slots within) x_is out into (omega (arith, more, most))
reopens p mid q slot card good some within (CameOut x same empty is out) more (StayedOut stays refusal refused) most =
    let x_is : slot_at (all_open p.cage.cards) slot ≡ Some card = is ∙ ap Some (cc same) in
    reopens_out p mid q slot card good some within empty x_is out stays (omega (arith, more, most))
    (λ numbered have. never_refused p mid slot card refusal good some within empty x_is out have refused)
reopens p mid q slot card good some within (CameOut x same empty is out) more (HasNoNumber stays worn) most =
    let x_is : slot_at (all_open p.cage.cards) slot ≡ Some card = is ∙ ap Some (cc same) in
    reopens_out p mid q slot card good some within empty x_is out stays (omega (arith, more, most)) (λ numbered have. omega (arith, more, worn, numbered))
reopens p mid q slot card good some within (WasVacant none vacant same) more into most = absurd (cc none)

-- one slot whose card did not come out
pub reopens_none : (p q : Panel) (slot : ℕ) (a : AnswerSeen) → OutOf p slot a q → ejected a ≡ None → q.events ≤ p.events + 1 → Reopens p slot q
reopens_none p q slot a (CameOut card is empty at_rest_now out) none few = let e = ap ejected is in absurd (cc)
reopens_none p q slot a (WasVacant not_out vacant same) none few = reopens_vacant p slot q vacant same few

-- slots that were gone through, up to this one
pub record IsSoFar (p : Panel) (slots : ℕ) (q : Panel) : Type 0 where
  pub closed : (c : Channel) → is_closed q.cage.cards c ≡ true → slots < c.0
  pub events : q.events ≤ p.events + 2 * slots
  pub back : p.events + 2 * slots ≤ last_number → HaveChannels p.cage.cards → all_open q.cage.cards ≡ all_open p.cage.cards
  pub idle : (q.cage.scan ≡ None) ⊎ (((slot : ℕ) → 1 ≤ slot → slot ≤ slots → slot_at p.cage.cards slot ≡ None) × (q.cage ≡ p.cage))

some_closed : (rack : Accounts) (c : Channel) → is_closed rack c ≡ true → 0 < c.0
some_closed rack c k = (closed_slot rack c k).0

pub none_yet : (p : Panel) → IsSoFar p 0 p
none_yet p = record {
  closed = λ c k. some_closed p.cage.cards c k;
  events = omega arith;
  back = λ numbered have. refl;
  idle = inr ((λ slot some few. absurd (omega (arith, some, few))), refl);
}

-- the cards have as many channels where they are the same but for what is closed
have_same : (old new : Accounts) → all_open new ≡ all_open old → HaveChannels old → HaveChannels new
have_same old new same have = λ slot card is relays.
    let rest : option_rest (slot_at old slot) ≡ Some (at_rest card) = sym (slot_rest old slot) ∙ ap (λ (l : Accounts). slot_at l slot) (sym same)
    ∙ slot_rest new slot ∙ ap option_rest is in
    let r = rest_of (slot_at old slot) (at_rest card) rest in
    let some : 1 ≤ length r.0.groups = have slot r.0 r.1 (sym r.3 ∙ relays) in
    let size : length card.groups ≡ length r.0.groups = ap length r.2 in omega (arith, some, size)

idle_more : (p m q : Panel) (before : ℕ)
    → (m.cage.scan ≡ None) ⊎ (((slot : ℕ) → 1 ≤ slot → slot ≤ before → slot_at p.cage.cards slot ≡ None) × (m.cage ≡ p.cage))
    → (q.cage.scan ≡ None) ⊎ ((slot_at m.cage.cards (before + 1) ≡ None) × (q.cage ≡ m.cage))
    → (q.cage.scan ≡ None) ⊎ (((slot : ℕ) → 1 ≤ slot → slot ≤ before + 1 → slot_at p.cage.cards slot ≡ None) × (q.cage ≡ p.cage))
idle_more p m q before so (inl over) = inl over
idle_more p m q before (inl over) (inr (vacant, same)) = inl (ap (λ (x : CageSeen). x.scan) same ∙ over)
idle_more p m q before (inr (none, was)) (inr (vacant, same)) = inr (
  (λ slot some few. elim (cases_eq slot (before + 1)) [
    | inl last ↦ (ap (λ (s : ℕ). slot_at p.cage.cards s) last ∙ sym (ap (λ (x : CageSeen). slot_at x.cards (before + 1)) was) ∙ vacant)
    | inr other ↦ none slot some (omega (arith, few, other))
  ]),
  same ∙ was,
)

pub one_more : (p m q : Panel) (before : ℕ) → IsSoFar p before m → Reopens m (before + 1) q → IsSoFar p (before + 1) q
one_more p m q before so r = record {
  closed = λ c k. let was = r.closed c k in let past = so.closed c was.0 in let other = was.1 in omega (arith, past, other);
  events = omega (arith, so.events, r.events);
  back = λ numbered have.
      let same : all_open m.cage.cards ≡ all_open p.cage.cards = so.back (omega (arith, numbered)) have in
      r.back (omega (arith, numbered, so.events)) (have_same p.cage.cards m.cage.cards same have) ∙ same;
  idle = idle_more p m q before so.idle r.idle;
}

none_left : (rack : Accounts) (c : Channel) (b : Bool) → is_closed rack c ≡ b → (is_closed rack c ≡ true → ⊥) → is_closed rack c ≡ false
none_left rack c true is never = absurd (never is)
none_left rack c false is never = is

idle_at : (p q : Panel) (slot : ℕ) → is_some (slot_at p.cage.cards slot) ≡ true → 1 ≤ slot → slot ≤ most_slots
    → (q.cage.scan ≡ None) ⊎ (((slot : ℕ) → 1 ≤ slot → slot ≤ most_slots → slot_at p.cage.cards slot ≡ None) × (q.cage ≡ p.cage)) → q.cage.scan ≡ None
idle_at p q slot there some within (inl over) = over
idle_at p q slot there some within (inr (none, same)) = let e = none slot some within in absurd (cc)

-- all slots were gone through
pub all_opened : (p q : Panel) → length q.cage.cards ≡ most_slots → length p.cage.cards ≡ most_slots → IsSoFar p most_slots q → IsOpened p q
all_opened p q size was so = record {
  none = λ c. none_left q.cage.cards c (is_closed q.cage.cards c) refl (λ k. let past = so.closed c k in let within = (closed_slot q.cage.cards c k).1 in
      omega (arith, past, within, size));
  idle = λ slot there. let there_in = some_slot p.cage.cards slot there in idle_at p q slot there (omega (arith, there_in.0)) (omega (arith, there_in.1, was)) so.idle;
  back = so.back;
}
