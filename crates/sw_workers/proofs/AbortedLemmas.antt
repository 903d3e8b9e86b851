-- The entries of an abort: the card of slot after slot is asked out, and goes back.
use Rattle.std.proofs.Common.{◌≡◌, ℕ, ◌+◌, Bool, true, false, None, List, [], ◌∷◌, ◌++◌, refl, sym, ap, ◌∙◌, subst}
use Rattle.std.proofs.lemmas.Bool.{MatchBool-at_false}
use native.Mathlib.Numerals.{unary_clauses}
use Rattle.std.proofs.lemmas.List.{append_assoc, append-nil}
use Rattle.sw_base.specs.Limits.{most_slots}
use Rattle.sw_card.specs.Account.{Account}
use Rattle.sw_core.specs.Panel.{Panel}
use Rattle.sw_core.specs.Seen.{AskEject, AskInstall, AnswerSeen, SaysEjected, SaysNotEjected}
use Rattle.sw_core.specs.Step.{Acts, IsEvent, IsUnnumbered, Step}
use Rattle.sw_history.specs.Board.{Known, entry_of}
use Rattle.sw_history.specs.Entries.{HistoryEntry}
use Rattle.sw_history.specs.History.{AsksInHistory, IsHistory, event, grown, said_at}
use Rattle.sw_history.specs.Closing.{EndsAtRest}
use Rattle.sw_history.specs.Opened.{AddsSlot, AddsSlots, AreOfCards, IsOpened, first_slots, out_by, slots_out}
use Rattle.sw_history.specs.Shares.{is_event}
use Rattle.sw_workers.proofs.EjectedLemmas.{unnumbered}
use Rattle.sw_history.proofs.RestLemmas.{entries_by, grown_by, leads_by}

history_join : (p : Panel) (first : List HistoryEntry) (m : Panel) (second : List HistoryEntry) (q : Panel) → IsHistory p first m → IsHistory m second q
    → IsHistory p (first ++ second) q
history_join p [] m second q h k = subst (λ (x : Panel). IsHistory x second q) (sym h) k
history_join p (e ∷ first) m second q h k = (h.0, h.1, history_join h.0 first m second q h.2 k)

out_join : (first second : List HistoryEntry) → slots_out (first ++ second) ≡ slots_out first ++ slots_out second
out_join [] second = refl
out_join (e ∷ first) second = ap (λ (l : List ℕ). out_by e.ask ++ l) (out_join first second)
    ∙ sym (append_assoc (out_by e.ask) (slots_out first) (slots_out second))

cards_join : (first second : List HistoryEntry) → AreOfCards first → AreOfCards second → AreOfCards (first ++ second)
cards_join [] second h k = k
cards_join (e ∷ first) second h k = (h.0, cards_join first second h.1 k)

eject_acts : (p : Panel) (slot : ℕ) (f : Bool) (a : AnswerSeen) (d : Panel) → Acts p (AskEject slot) f a d → is_event a ≡ true
eject_acts p slot f (SaysEjected card) d h = refl
eject_acts p slot f (SaysNotEjected refusal) d h = refl
eject_acts p slot f a d h = absurd h

eject_is_event : (p : Panel) (slot : ℕ) (f : Bool) (a : AnswerSeen) (q : Panel) → Step p (AskEject slot) f a q → is_event a ≡ true
eject_is_event p slot f a q s =
    let e : IsEvent p (AskEject slot) f a q = MatchBool-at_false (IsUnnumbered p (AskEject slot) f a q) (IsEvent p (AskEject slot) f a q)
    (unnumbered p.events slot) s in
    eject_acts p slot f a e.done e.acts

-- the card of a slot is asked out
pub slot_out : (start p q : Panel) (slot : ℕ) (f : Bool) (a : AnswerSeen) (old new : List HistoryEntry) (v w : Known) → Step p (AskEject slot) f a q
    → AsksInHistory start p v (event (AskEject slot) a q) w → new ≡ grown (is_event a) old (entry_of v (said_at q (AskEject slot) a))
    → AddsSlot p old slot q new
slot_out start p q slot f a old new v w step asked grew =
    let is : is_event a ≡ true = eject_is_event p slot f a q step in
    let e : HistoryEntry = entry_of v (said_at q (AskEject slot) a) in
    record {
      entries = e ∷ [];
      grown = grew ∙ ap (λ (b : Bool). grown b old e) is;
      leads = leads_by true start p q v w (AskEject slot) a is asked;
      out = refl;
      cards = (tt, tt);
    }

back_out : (b : Bool) (v : Known) (q : Panel) (slot : ℕ) (card : Account) (a : AnswerSeen)
    → slots_out (entries_by b (entry_of v (said_at q (AskInstall slot card) a))) ≡ []
back_out true v q slot card a = refl
back_out false v q slot card a = refl

back_cards : (b : Bool) (v : Known) (q : Panel) (slot : ℕ) (card : Account) (a : AnswerSeen)
    → AreOfCards (entries_by b (entry_of v (said_at q (AskInstall slot card) a)))
back_cards true v q slot card a = (tt, tt)
back_cards false v q slot card a = tt

-- the card that came out goes back
pub slot_back : (start p m q : Panel) (slot : ℕ) (card : Account) (a : AnswerSeen) (old mid new : List HistoryEntry) (v w : Known) → AddsSlot p old slot m mid
    → AsksInHistory start m v (event (AskInstall slot card) a q) w → new ≡ grown (is_event a) mid (entry_of v (said_at q (AskInstall slot card) a))
    → AddsSlot p old slot q new
slot_back start p m q slot card a old mid new v w adds asked grew =
    let e : HistoryEntry = entry_of v (said_at q (AskInstall slot card) a) in
    let more : List HistoryEntry = entries_by (is_event a) e in
    record {
      entries = adds.entries ++ more;
      grown = grew ∙ grown_by (is_event a) mid e ∙ ap (λ (l : List HistoryEntry). l ++ more) adds.grown ∙ append_assoc old adds.entries more;
      leads = history_join p adds.entries m more q adds.leads (leads_by (is_event a) start m q v w (AskInstall slot card) a refl asked);
      out = out_join adds.entries more ∙ ap (λ (l : List ℕ). l ++ slots_out more) adds.out
          ∙ ap (λ (l : List ℕ). slot ∷ l) (back_out (is_event a) v q slot card a);
      cards = cards_join adds.entries more adds.cards (back_cards (is_event a) v q slot card a);
    }

-- ---- slot after slot

-- the history grew by the entries of so many slots
pub record IsGrown (p : Panel) (old : List HistoryEntry) (slots : ℕ) (q : Panel) (new : List HistoryEntry) : Type 0 where
  pub entries : List HistoryEntry
  pub grown : new ≡ old ++ entries
  pub adds : AddsSlots p entries slots q

pub no_slots : (p : Panel) (old new : List HistoryEntry) → new ≡ old ++ [] → IsGrown p old 0 p new
no_slots p old new same = record { entries = []; grown = same; adds = record { leads = refl; out = refl; cards = tt } }

first_more : (n : ℕ) → first_slots (n + 1) ≡ first_slots n ++ (n + 1) ∷ []
first_more n = simp unary_clauses refl

pub slots_more : (p m q : Panel) (slots : ℕ) (old mid new : List HistoryEntry) → IsGrown p old slots m mid → AddsSlot m mid (slots + 1) q new
    → IsGrown p old (slots + 1) q new
slots_more p m q slots old mid new so adds = record {
  entries = so.entries ++ adds.entries;
  grown = adds.grown ∙ ap (λ (l : List HistoryEntry). l ++ adds.entries) so.grown ∙ append_assoc old so.entries adds.entries;
  adds = record {
    leads = history_join p so.entries m adds.entries q so.adds.leads adds.leads;
    out = out_join so.entries adds.entries ∙ ap (λ (l : List ℕ). l ++ slots_out adds.entries) so.adds.out
        ∙ ap (λ (l : List ℕ). first_slots slots ++ l) adds.out ∙ sym (first_more slots);
    cards = cards_join so.entries adds.entries so.adds.cards adds.cards;
  };
}

-- all slots were gone through, and no scan runs
pub ends_here : (start p q : Panel) (old new : List HistoryEntry) → IsHistory start old p → IsGrown p old most_slots q new → IsOpened p q
    → q.cage.scan ≡ None → EndsAtRest start new q
ends_here start p q old new leads so opens idle = record {
  before = old;
  abort = so.entries;
  behind = [];
  whole = so.grown ∙ ap (λ (l : List HistoryEntry). old ++ l) (sym (append-nil so.entries));
  past = p;
  opened = q;
  leads = leads;
  aborts = so.adds;
  opens = opens;
  rests = (refl, record { none = opens.none; idle = idle });
}
