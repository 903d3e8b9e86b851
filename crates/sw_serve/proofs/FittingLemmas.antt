-- What a mainframe holds that has taken the cards of a list, and which lists it never refuses.
use Rattle.std.proofs.Common.{◌≡◌, ◌≢◌, ◌≤◌, ◌<◌, ◌-◌, ◌⊎◌, ◌==◌, ◌&&◌, not, MatchBool, ℕ, Bool, true, false, List, [], ◌∷◌, ◌++◌}
use Rattle.std.proofs.Common.{length, replicate, refl, sym, ap, subst, ◌∙◌}
use Rattle.std.proofs.Common.{Option, None, Some, inl, inr, arith, is_some, cond, ltb, get_or, zero, suc}
use Rattle.std.specs.Prelude.{slice_set, All, Contains}
use Rattle.std.proofs.lemmas.Bool.{cases_eq}
use Rattle.std.proofs.lemmas.Grind.{common_steps}
use Rattle.std.proofs.lemmas.List.{get_or-set_same, get_or-set_other, length-set}
use Rattle.std.proofs.lemmas.List.Elements.{All-nil, All-cons, All-contains, Contains-append_right}
use Rattle.sw_base.specs.Layout.{slot_at}
use Rattle.sw_base.specs.Limits.{most_slots}
use Rattle.sw_card.specs.Account.{Account, is_meter}
use Rattle.sw_cage.specs.Accounts.{Accounts}
use Rattle.sw_cage.specs.Install.{RefusesInstall, IsBadLayout, IsUnfit}
use Rattle.sw_cage.specs.declared.refusal.InstallRefusal.{InstallRefusal}
use Rattle.sw_cage.specs.declared.refusal.InstallRefusal.TheVariants.{Busy, Occupied, BadLayout}
use Rattle.sw_core.specs.declared.ask.Sid.{Sid}
use Rattle.sw_core.specs.declared.ask.SessionAsk.TheVariants as Ask
use Rattle.sw_core.specs.declared.ask.SessionAnswer.TheVariants.{Joined}
use Rattle.sw_core.specs.Event.{last_number, next_number}
use Rattle.sw_core.specs.Panel.{Panel, opening}
use Rattle.sw_core.specs.Seen.{AskSession, SaysSession}
use Rattle.sw_core.specs.Step.{IsEvent, IsUnnumbered, acts_unnumbered}
use Rattle.sw_serve.specs.SlotCards.{PlacedCard, placed, TakesCards, Holds, RefusesCard, IsFitted, IsSetUp, Joins}
use Rattle.sw_serve.specs.Fitting.{IsSound, AreApart, AreWelcome}
use Rattle.sw_serve.proofs.SlotCardsLemmas.{Taken, taken}

pub slot_set_same : {A : Type 0} (rack : List (Option A)) (s : ℕ) (v : Option A) → 0 < s → s ≤ length rack → slot_at (slice_set rack (s - 1) v) s ≡ v
slot_set_same rack s v p h = grind (arith, common_steps, get_or-set_same)

pub slot_set_other : {A : Type 0} (rack : List (Option A)) (s t : ℕ) (v : Option A) → 0 < s → t ≢ s → slot_at (slice_set rack (s - 1) v) t ≡ slot_at rack t
slot_set_other rack s t v p h = grind (arith, common_steps, get_or-set_other)

-- a row of so many slots
abbrev IsRow : Panel → Type 0
IsRow p = length p.cage.cards ≡ most_slots

row_after : (p : Panel) (o : PlacedCard) (q : Panel) → IsRow p → Taken p o q → IsRow q
row_after p o q row t = ap length t.cards ∙ length-set p.cage.cards (o.slot - 1) (Some o.card) ∙ row

-- the slot that was filled, and the others
filled : (p : Panel) (o : PlacedCard) (q : Panel) → IsRow p → Taken p o q → slot_at q.cage.cards o.slot ≡ Some o.card
filled p o q row t = ap (λ (r : Accounts). slot_at r o.slot) t.cards
    ∙ slot_set_same p.cage.cards o.slot (Some o.card) (omega (arith, t.can.first)) (omega (arith, t.can.last, row))

beside : (p : Panel) (o : PlacedCard) (q : Panel) (s : ℕ) → Taken p o q → s ≢ o.slot → slot_at q.cage.cards s ≡ slot_at p.cage.cards s
beside p o q s t other = ap (λ (r : Accounts). slot_at r s) t.cards ∙ slot_set_other p.cage.cards o.slot s (Some o.card) (omega (arith, t.can.first)) other

some_none : {A : Type 0} (o : Option A) (x : A) → o ≡ Some x → o ≡ None → ⊥
some_none None x e f = absurd (cc (e))
some_none (Some a) x e f = absurd (cc (f))

-- a card that is in stays in
stays_one : (p : Panel) (o : PlacedCard) (q : Panel) (s : ℕ) (c : Account) → Taken p o q → slot_at p.cage.cards s ≡ Some c → slot_at q.cage.cards s ≡ Some c
stays_one p o q s c t e = elim (cases_eq s o.slot) [
  | inl same ↦ absurd (some_none (slot_at p.cage.cards s) c e (ap (slot_at p.cage.cards) same ∙ t.can.empty))
  | inr other ↦ beside p o q s t other ∙ e
]

stays : (p q : Panel) (cards : List PlacedCard) (s : ℕ) (c : Account) → TakesCards p cards q → slot_at p.cage.cards s ≡ Some c → slot_at q.cage.cards s ≡ Some c
stays p q [] s c is e = ap (λ (x : Panel). slot_at x.cage.cards s) is ∙ e
stays p q (o ∷ more) s c (mid, first, others) e = stays mid q more s c others (stays_one p o mid s c (taken p o mid first) e)

each_in : (p q : Panel) (cards : List PlacedCard) → IsRow p → TakesCards p cards q → All (λ o. slot_at q.cage.cards o.slot ≡ Some o.card) cards
each_in p q [] row is = All-nil (λ (o : PlacedCard). slot_at q.cage.cards o.slot ≡ Some o.card)
each_in p q (o ∷ more) row (mid, first, others) =
    let t = taken p o mid first in
    All-cons (λ (o : PlacedCard). slot_at q.cage.cards o.slot ≡ Some o.card) o more (stays mid q more o.slot o.card others (filled p o mid row t))
    (each_in mid q more (row_after p o mid row t) others)

-- what is in was in before, or is one of the cards
abbrev ComesFrom : Panel → List PlacedCard → ℕ → Account → Type 0
ComesFrom p cards s c = (slot_at p.cage.cards s ≡ Some c) ⊎ Contains cards (placed s c)

one_of : (p : Panel) (o : PlacedCard) (mid : Panel) (more : List PlacedCard) (s : ℕ) (c : Account) → IsRow p → Taken p o mid → slot_at mid.cage.cards s ≡ Some c
    → ComesFrom p (o ∷ more) s c
one_of p o mid more s c row t e = elim (cases_eq s o.slot) [
  | inl same ↦ inr (
      let there : slot_at mid.cage.cards o.slot ≡ Some c = ap (slot_at mid.cage.cards) (sym same) ∙ e in
      let card : c ≡ o.card = let k : Some c ≡ Some o.card = sym there ∙ filled p o mid row t in cc (k) in
      let whole : placed o.slot o.card ≡ placed s c = sym (ap (λ x. placed x c) same ∙ ap (λ y. placed o.slot y) card) in
      (0, omega arith, whole))
  | inr other ↦ inl (sym (beside p o mid s t other) ∙ e)
]

only_in : (p q : Panel) (cards : List PlacedCard) (s : ℕ) (c : Account) → IsRow p → TakesCards p cards q → slot_at q.cage.cards s ≡ Some c → ComesFrom p cards s
    c
only_in p q [] s c row is e = inl (sym (ap (λ (x : Panel). slot_at x.cage.cards s) is) ∙ e)
only_in p q (o ∷ more) s c row (mid, first, others) e =
    let t = taken p o mid first in
    elim (only_in mid q more s c (row_after p o mid row t) others e) [
      | inl earlier ↦ one_of p o mid more s c row t earlier
      | inr later ↦ inr (Contains-append_right (o ∷ []) more (placed s c) later)
    ]

-- an empty row of slots
all_alike : {A : Type 0} (x : A) (n i : ℕ) → get_or (replicate n x) i x ≡ x
all_alike x zero i = refl
all_alike x (suc n) zero = refl
all_alike x (suc n) (suc i) = all_alike x n i

either_none : {A : Type 0} (b : Bool) (o : Option A) → o ≡ None → cond b o None ≡ None
either_none true o e = e
either_none false o e = refl

empty_slots : {A : Type 0} (n s : ℕ) → slot_at {A = A} (replicate n None) s ≡ None
empty_slots n s = either_none (ltb 0 s) (get_or (replicate n None) (s - 1) None) (all_alike None n (s - 1))

pub holds : (p q : Panel) (cards : List PlacedCard) → p.cage.cards ≡ opening.cage.cards → TakesCards p cards q → Holds q.cage.cards cards
holds p q cards same takes =
    let row : IsRow p = ap length same in
    record {
      each = each_in p q cards row takes;
      only = λ s c e. elim (only_in p q cards s c row takes e) [
        | inl before ↦ absurd (some_none (slot_at p.cage.cards s) c before (ap (λ (r : Accounts). slot_at r s) same ∙ empty_slots most_slots s))
        | inr x ↦ x
      ];
    }

pub fitted : (p q : Panel) (cards : List PlacedCard) → p ≡ opening → TakesCards p cards q → IsFitted cards q
fitted p q cards is takes = record {
  takes = subst (λ (x : Panel). TakesCards x cards q) is takes;
  holds = holds p q cards (ap (λ (x : Panel). x.cage.cards) is) takes;
}

-- nothing is out, no scan runs and no card is in: so is the opening mainframe, and one that a session has joined since
pub record IsBare (p : Panel) : Type 0 where
  pub cards : p.cage.cards ≡ opening.cage.cards
  pub out : p.cage.out ≡ opening.cage.out
  pub scan : p.cage.scan ≡ None

still_out : (p q : Panel) (cards : List PlacedCard) → TakesCards p cards q → q.cage.out ≡ p.cage.out
still_out p q [] is = ap (λ (x : Panel). x.cage.out) is
still_out p q (o ∷ more) (mid, first, others) = let t = taken p o mid first in still_out mid q more others ∙ t.out

still_idle : (p q : Panel) (cards : List PlacedCard) → TakesCards p cards q → q.cage.scan ≡ p.cage.scan
still_idle p q [] is = ap (λ (x : Panel). x.cage.scan) is
still_idle p q (o ∷ more) (mid, first, others) = let t = taken p o mid first in still_idle mid q more others ∙ t.scan

is_none : {A : Type 0} (o : Option A) → o ≡ None → is_some o ≡ true → ⊥
is_none None e f = absurd (cc (f))
is_none (Some a) e f = absurd (cc (e))

-- the slot of a card is none of those before it
apart_before : (before behind : List PlacedCard) (o : PlacedCard) → AreApart (before ++ o ∷ behind) → All (λ x. o.slot ≢ x.slot) before
apart_before [] behind o apart = All-nil (λ (x : PlacedCard). o.slot ≢ x.slot)
apart_before (x ∷ before) behind o (all, more) =
    All-cons (λ (x : PlacedCard). o.slot ≢ x.slot) x before
    (All-contains (λ (other : PlacedCard). other.slot ≢ x.slot) (before ++ o ∷ behind) o all
    (Contains-append_right before (o ∷ behind) o (0, omega arith, refl)))
    (apart_before before behind o more)

unfit_sound : (o : PlacedCard) → IsSound o → is_meter o.card ≡ false → IsUnfit o.card → ⊥
unfit_sound o sound relays bad = elim bad [
  | inl e ↦ let k = sound.fit relays in omega (arith, k.some_channel, e)
  | inr rest ↦ elim rest [
    | inl more ↦ let k = sound.fit relays in omega (arith, k.few_channels, more)
    | inr x ↦ absurd (let e : true ≡ false = sym x.1 ∙ sound.«open» x.0 in cc (e))
  ]
]

bad_sound : (o : PlacedCard) → IsSound o → IsBadLayout o.slot o.card → ⊥
bad_sound o sound bad = elim bad [
  | inl l ↦ omega (arith, l, sound.first)
  | inr rest ↦ elim rest [
    | inl g ↦ omega (arith, g, sound.last)
    | inr x ↦ unfit_sound o sound x.0 x.1
  ]
]

free_slot : (p q : Panel) (before : List PlacedCard) (slot : ℕ) → IsBare p → TakesCards p before q → All (λ x. slot ≢ x.slot) before
    → (c : Account) → slot_at q.cage.cards slot ≡ Some c → ⊥
free_slot p q before slot bare takes other c e =
    let held = holds p q before bare.cards takes in
    let apart = All-contains (λ (x : PlacedCard). slot ≢ x.slot) before (placed slot c) other (held.only slot c e) in
    apart refl

taken_slot : (o : Option Account) → ((c : Account) → o ≡ Some c → ⊥) → is_some o ≡ true → ⊥
taken_slot None none e = absurd (cc (e))
taken_slot (Some c) none e = none c refl

no_ticket : (p q : Panel) (before : List PlacedCard) (slot : ℕ) → IsBare p → TakesCards p before q → is_some (slot_at q.cage.out slot) ≡ true → ⊥
no_ticket p q before slot bare takes e =
    is_none (slot_at q.cage.out slot) (ap (λ r. slot_at r slot) (still_out p q before takes ∙ bare.out) ∙ empty_slots most_slots slot) e

refused_sound : (p q : Panel) (before : List PlacedCard) (o : PlacedCard) (why : InstallRefusal) → IsBare p → TakesCards p before q → IsSound o
    → All (λ x. o.slot ≢ x.slot) before → RefusesInstall q.cage o.slot o.card why → ⊥
refused_sound p q before o Busy bare takes sound other r = is_none q.cage.scan (still_idle p q before takes ∙ bare.scan) r
refused_sound p q before o Occupied bare takes sound other r = elim r.1 [
  | inl ticket ↦ no_ticket p q before o.slot bare takes ticket
  | inr card ↦ taken_slot (slot_at q.cage.cards o.slot) (free_slot p q before o.slot bare takes other) card
]
refused_sound p q before o BadLayout bare takes sound other r = bad_sound o sound r.3

refused_listed : (p last : Panel) (before behind : List PlacedCard) (o : PlacedCard) (why : InstallRefusal) → IsBare p → TakesCards p before last
    → AreWelcome (before ++ o ∷ behind) → RefusesInstall last.cage o.slot o.card why → ⊥
refused_listed p last before behind o why bare takes welcome refuses =
    refused_sound p last before o why bare takes
    (All-contains IsSound (before ++ o ∷ behind) o welcome.sound (Contains-append_right before (o ∷ behind) o (0, omega arith, refl)))
    (apart_before before behind o welcome.apart) refuses

-- no card of a welcome list is refused
pub never_refused : (p : Panel) (cards : List PlacedCard) (slot : ℕ) (why : InstallRefusal) → IsBare p → AreWelcome cards → RefusesCard p cards slot why → ⊥
never_refused p cards slot why bare welcome r =
    refused_listed p r.last r.before r.behind (placed slot r.card) why bare r.takes (subst AreWelcome r.listed welcome) r.refuses

pub bare_opening : IsBare opening
bare_opening = record { cards = refl; out = refl; scan = refl }

pub bare_like : (p q : Panel) → q.cage ≡ p.cage → IsBare p → IsBare q
bare_like p q same bare = record {
  cards = ap (λ c. c.cards) same ∙ bare.cards;
  out = ap (λ c. c.out) same ∙ bare.out;
  scan = ap (λ c. c.scan) same ∙ bare.scan;
}

-- a session that joins the opening mainframe leaves the cage as it is
joins_by : (b : Bool) (sid : Sid) (f : Bool) (q : Panel)
    → MatchBool b (IsUnnumbered opening (AskSession Ask.Join) f (SaysSession (Joined sid) None) q)
    (IsEvent opening (AskSession Ask.Join) f (SaysSession (Joined sid) None) q) → (q.cage ≡ opening.cage) × (q.events ≤ 1)
joins_by true sid f q s = absurd s.worn
joins_by false sid f q s = (
  ap (λ (x : Panel). x.cage) s.after ∙ ap (λ (x : Panel). x.cage) s.acts.3,
  let e = ap (λ (x : Panel). x.events) s.after ∙ ap (λ (x : Panel). next_number x.events) s.acts.3 in omega (arith, e),
)

pub joined_bare : (sid : Sid) (q : Panel) → Joins sid q → (q.cage ≡ opening.cage) × (q.events ≤ 1)
joined_bare sid q j = joins_by ((opening.events == last_number) && not (acts_unnumbered (AskSession Ask.Join))) sid j.failed q j.step

pub set_up_by : (sid : Sid) (p q : Panel) (cards : List PlacedCard) → Joins sid p → TakesCards p cards q → IsSetUp cards sid q
set_up_by sid p q cards j takes = record {
  begun = p;
  joined = j;
  fitted = takes;
  holds = holds p q cards (ap (λ c. c.cards) (joined_bare sid p j).0) takes;
}
