-- What no session asks leaves a mainframe at rest as it is, and a history that ends at rest goes on so.
use Rattle.std.specs.Prelude.{◌==◌, ◌&&◌, not}
use Rattle.std.proofs.Common.{◌≡◌, ℕ, ◌-◌, ◌<◌, ◌≤◌, Bool, true, false, Option, None, Some, List, [], ◌∷◌, ◌++◌, refl, sym, ap, ◌∙◌, subst, arith}
use Rattle.std.proofs.Common.{is_some, length, slice_set, if◌then◌else◌, inl, inr}
use Rattle.std.proofs.lemmas.Bool.{cases_Bool, and_parts, MatchBool-at_true, MatchBool-at_false}
use Rattle.std.proofs.lemmas.List.{append_assoc, append-nil, length-map}
use Rattle.sw_base.specs.Layout.{Channel, slot_at}
use Rattle.sw_card.specs.Account.{Account, of_meter}
use Rattle.sw_card.proofs.Rows.{none_is_closed}
use Rattle.sw_cage.specs.Accounts.{Accounts, is_closed, all_open, option_rest, option_closed}
use Rattle.sw_cage.specs.Cage.{CageSeen, ScanSeen, safe_state}
use Rattle.sw_cage.specs.Good.{IsHeld}
use Rattle.sw_cage.specs.Install.{CanInstall, stopped, without_card}
use Rattle.sw_cage.specs.Outcome.{with_back}
use Rattle.sw_cage.specs.Takes.{Takes, TakesThere, TakesReturn, TakesReturnThere}
use Rattle.sw_cage.specs.TakenSeen.{TakenSeen, SaysIgnored, SaysWaits, SaysPause, SaysJob, SaysEnded, SaysFault}
use Rattle.sw_cage.specs.Work.{FinishedSeen}
use Rattle.sw_cage.specs.declared.job.Ticket.{Ticket}
use Rattle.sw_cage.specs.declared.taken.Happening.{Happening}
use Rattle.sw_cage.specs.declared.taken.Happening.TheVariants.{External, Elapsed}
use Rattle.sw_cage.proofs.SlotChangeLemmas.{slot_cases, some_slot}
use Rattle.sw_core.specs.Event.{last_number, concluded, session_concluded}
use Rattle.sw_core.specs.Panel.{Panel, with_cards}
use Rattle.sw_core.specs.declared.ask.SessionAnswer.{SessionAnswer}
use Rattle.sw_core.specs.declared.ask.SessionAnswer.TheVariants.{Joined, Full, Stranger, Broken, Done, Missed, Max}
use Rattle.sw_core.specs.declared.ask.SessionAnswer.TheVariants.{Lock, Info, Snapshot, Refused, Hold, Worn}
use Rattle.sw_core.specs.Run.{IsAtRest}
use Rattle.sw_core.specs.Seen.{AskSeen, AskSession, AskInstall, AskEject, AskExternal, AskElapsed, AskFinished, AnswerSeen}
use Rattle.sw_core.specs.Seen.{SaysSession, SaysInstalled, SaysNotInstalled, SaysEjected, SaysNotEjected, SaysTaken, SaysMissed, SaysFailed, SaysBack, SaysWorn}
use Rattle.sw_core.specs.Step.{Acts, Happens, IsEvent, IsUnnumbered, Returns, Step, StepFinished, acts_unnumbered}
use Rattle.sw_history.specs.Board.{Known, entry_of}
use Rattle.sw_history.specs.Closing.{EndsAtRest, StaysAtRest, is_unasked}
use Rattle.sw_history.specs.Entries.{HistoryEntry}
use Rattle.sw_history.specs.History.{AsksInHistory, IsEntry, IsHistory, Replied, SeatTold, event, grown, said_at}
use Rattle.sw_history.specs.Shares.{is_event}

-- ---- a step

same_rest : (p q : Panel) → q.cage ≡ p.cage → IsAtRest p → IsAtRest q
same_rest p q e r = record {
  none = λ c. ap (λ (x : CageSeen). is_closed x.cards c) e ∙ r.none c;
  idle = ap (λ (x : CageSeen). x.scan) e ∙ r.idle;
}

idle_takes : (p : CageSeen) (happening : Happening) → p.scan ≡ None → Takes p happening → ⊥
idle_takes p happening idle takes = subst (λ (s : Option ScanSeen). TakesThere p.number s happening) idle takes

idle_returns : (p : CageSeen) (slot : ℕ) (ticket : Ticket) → p.scan ≡ None → TakesReturn p slot ticket → ⊥
idle_returns p slot ticket idle takes = subst (λ (s : Option ScanSeen). TakesReturnThere p.number s slot ticket) idle takes

rest_happens : (p : Panel) (happening : Happening) (f : Bool) (told : TakenSeen) (d : Panel) → IsAtRest p → Happens p happening f told d → IsAtRest d
rest_happens p happening f SaysIgnored d r h = same_rest p d (ap (λ (x : Panel). x.cage) h.2) r
rest_happens p happening f SaysWaits d r h = absurd (idle_takes p.cage happening r.idle h.0)
rest_happens p happening f (SaysPause t u) d r h = absurd (idle_takes p.cage happening r.idle h.0)
rest_happens p happening f (SaysJob job) d r h = absurd (idle_takes p.cage happening r.idle h.0)
rest_happens p happening f SaysEnded d r h = absurd (idle_takes p.cage happening r.idle h.0)
rest_happens p happening f SaysFault d r h = absurd (idle_takes p.cage happening r.idle h.0)

-- a slot has another card, with nothing closed
bare_set : (rack : Accounts) (slot : ℕ) (v : Option Account) (c : Channel) → 0 < slot → slot ≤ length rack → ((k : ℕ) → option_closed v k ≡ false)
    → ((x : Channel) → is_closed rack x ≡ false) → is_closed (slice_set rack (slot - 1) v) c ≡ false
bare_set rack slot v c some within quiet bare = elim (slot_cases rack slot c.0 v some within) [
  | inl e ↦ ap (λ (o : Option Account). option_closed o c.1) e.1 ∙ quiet c.1
  | inr e ↦ ap (λ (o : Option Account). option_closed o c.1) e.1 ∙ bare c
]

late_rest : (p : Panel) (done : FinishedSeen) (d : Panel) → IsHeld p.cage → slot_at p.cage.out done.slot ≡ Some done.ticket → IsAtRest p
    → d.cage ≡ with_back p.cage done → IsAtRest d
late_rest p done d held out r cage =
    let there = some_slot p.cage.out done.slot (ap is_some out) in
    record {
      none = λ c. ap (λ (x : CageSeen). is_closed x.cards c) cage
          ∙ bare_set p.cage.cards done.slot (Some (of_meter done.meter)) c there.0 (omega (arith, there.1, held.outs, held.slots)) (λ k. none_is_closed [] k) r.none;
      idle = ap (λ (x : CageSeen). x.scan) cage ∙ r.idle;
    }

rest_returns : (p : Panel) (done : FinishedSeen) (f : Bool) (told : TakenSeen) (d : Panel) → IsHeld p.cage
    → slot_at p.cage.out done.slot ≡ Some done.ticket → IsAtRest p → Returns p done f told d → IsAtRest d
rest_returns p done f SaysIgnored d held out r h = late_rest p done d held out r (ap (λ (x : Panel). x.cage) h.2)
rest_returns p done f SaysWaits d held out r h = absurd (idle_returns p.cage done.slot done.ticket r.idle h.0)
rest_returns p done f (SaysPause t u) d held out r h = absurd (idle_returns p.cage done.slot done.ticket r.idle h.0)
rest_returns p done f (SaysJob job) d held out r h = absurd (idle_returns p.cage done.slot done.ticket r.idle h.0)
rest_returns p done f SaysEnded d held out r h = absurd (idle_returns p.cage done.slot done.ticket r.idle h.0)
rest_returns p done f SaysFault d held out r h = absurd (idle_returns p.cage done.slot done.ticket r.idle h.0)

rest_finished : (p : Panel) (done : FinishedSeen) (f : Bool) (a : AnswerSeen) (d : Panel) → IsHeld p.cage → IsAtRest p → StepFinished p done f a d
    → IsAtRest d
rest_finished p done f SaysBack d held r h = same_rest p d (ap (λ (x : Panel). x.cage) h.2) r
rest_finished p done f a d held r h = rest_returns p done f h.told d held h.out r h.returns

rest_installed : (p : Panel) (slot : ℕ) (card : Account) (d : Panel) → IsHeld p.cage → IsAtRest p → CanInstall p.cage.cards slot card
    → d ≡ with_cards p (slice_set p.cage.cards (slot - 1) (Some card)) → IsAtRest d
rest_installed p slot card d held r can after =
    let cage : d.cage ≡ (with_cards p (slice_set p.cage.cards (slot - 1) (Some card))).cage = ap (λ (x : Panel). x.cage) after in
    record {
      none = λ c. ap (λ (x : CageSeen). is_closed x.cards c) cage
          ∙ bare_set p.cage.cards slot (Some card) c can.first (omega (arith, can.last, held.slots)) can.«open» r.none;
      idle = ap (λ (x : CageSeen). x.scan) cage ∙ r.idle;
    }

not_stopped : (p : CageSeen) → p.scan ≡ None → stopped p ≡ p
not_stopped p idle = ap (λ (s : Option ScanSeen). if is_some s then safe_state p else p) idle

rest_ejected : (p : Panel) (slot : ℕ) (card : Account) (d : Panel) → IsAtRest p → slot_at (all_open p.cage.cards) slot ≡ Some card
    → d.cage ≡ without_card (stopped p.cage) slot → IsAtRest d
rest_ejected p slot card d r is after =
    let cage : d.cage ≡ without_card p.cage slot = after ∙ ap (λ (x : CageSeen). without_card x slot) (not_stopped p.cage r.idle) in
    let there = some_slot (all_open p.cage.cards) slot (ap is_some is) in
    record {
      none = λ c. ap (λ (x : CageSeen). is_closed x.cards c) cage
          ∙ bare_set p.cage.cards slot None c there.0 (omega (arith, there.1, length-map p.cage.cards option_rest)) (λ _. refl) r.none;
      idle = ap (λ (x : CageSeen). x.scan) cage ∙ r.idle;
    }

rest_acts : (p : Panel) (ask : AskSeen) (f : Bool) (a : AnswerSeen) (d : Panel) → IsHeld p.cage → IsAtRest p → is_unasked ask ≡ true → Acts p ask f a d
    → IsAtRest d
rest_acts p (AskSession ask) f a d held r unasked h = absurd (cc unasked)
rest_acts p (AskInstall slot card) f SaysInstalled d held r unasked h = rest_installed p slot card d held r h.3 h.4
rest_acts p (AskInstall slot card) f (SaysNotInstalled refusal) d held r unasked h = same_rest p d (ap (λ (x : Panel). x.cage) h.2) r
rest_acts p (AskEject slot) f (SaysEjected card) d held r unasked h = rest_ejected p slot card d r h.2 (ap (λ (x : Panel). x.cage) h.3)
rest_acts p (AskEject slot) f (SaysNotEjected refusal) d held r unasked h = same_rest p d (ap (λ (x : Panel). x.cage) h.2) r
rest_acts p AskExternal f a d held r unasked h = rest_happens p External f h.told d r h.happens
rest_acts p (AskElapsed ticket) f a d held r unasked h = rest_happens p (Elapsed ticket) f h.told d r h.happens
rest_acts p (AskFinished done) f a d held r unasked h = rest_finished p done f a d held r h
rest_acts p ask f a d held r unasked h = absurd h

session_cage : (a : SessionAnswer) (p : Panel) → (session_concluded a p).cage ≡ p.cage
session_cage Stranger p = refl
session_cage Broken p = refl
session_cage (Hold ask) p = refl
session_cage (Worn ask) p = refl
session_cage (Refused e) p = refl
session_cage (Joined sid) p = refl
session_cage Full p = refl
session_cage (Done text) p = refl
session_cage Missed p = refl
session_cage (Max n) p = refl
session_cage (Lock code) p = refl
session_cage (Info exclusive n) p = refl
session_cage (Snapshot snapshot number) p = refl

concluded_cage : (a : AnswerSeen) (p : Panel) → (concluded a p).cage ≡ p.cage
concluded_cage (SaysSession answer work) p = session_cage answer p
concluded_cage SaysInstalled p = refl
concluded_cage (SaysNotInstalled refusal) p = refl
concluded_cage (SaysEjected card) p = refl
concluded_cage (SaysNotEjected refusal) p = refl
concluded_cage (SaysTaken work) p = refl
concluded_cage SaysMissed p = refl
concluded_cage SaysFailed p = refl
concluded_cage SaysBack p = refl
concluded_cage SaysWorn p = refl

rest_step : (p : Panel) (ask : AskSeen) (f : Bool) (a : AnswerSeen) (q : Panel) → IsHeld p.cage → IsAtRest p → is_unasked ask ≡ true → Step p ask f a q
    → IsAtRest q
rest_step p ask f a q held r unasked s = elim (cases_Bool ((p.events == last_number) && not (acts_unnumbered ask))) [
  | inl worn ↦ (
      let u : IsUnnumbered p ask f a q = MatchBool-at_true (IsUnnumbered p ask f a q) (IsEvent p ask f a q) worn s in
      same_rest p q (ap (λ (x : Panel). x.cage) u.same) r
      )
  | inr numbered ↦ (
      let e : IsEvent p ask f a q = MatchBool-at_false (IsUnnumbered p ask f a q) (IsEvent p ask f a q) numbered s in
      same_rest e.done q (ap (λ (x : Panel). x.cage) e.after ∙ concluded_cage a e.done) (rest_acts p ask f a e.done held r unasked e.acts)
      )
]

-- ---- a history

stays_more : (p : Panel) (entries : List HistoryEntry) (q : Panel) (e : HistoryEntry) (r : Panel) → StaysAtRest p entries q → is_unasked e.ask ≡ true
    → IsEntry q e r → IsAtRest r → StaysAtRest p (entries ++ e ∷ []) r
stays_more p [] q e r h unasked k rest = (h.1, unasked, r, subst (λ (x : Panel). IsEntry x e r) h.0 k, (refl, rest))
stays_more p (x ∷ entries) q e r h unasked k rest = (h.0, h.1, h.2, h.3, stays_more h.2 entries q e r h.4 unasked k rest)

stays_last : (p : Panel) (entries : List HistoryEntry) (q : Panel) → StaysAtRest p entries q → IsAtRest q
stays_last p [] q h = subst IsAtRest (sym h.0) h.1
stays_last p (x ∷ entries) q h = stays_last h.2 entries q h.4

-- the new entries of an ask: one where it is an event
abbrev pub entries_by : Bool → HistoryEntry → List HistoryEntry
entries_by true e = e ∷ []
entries_by false e = []

pub grown_by : (b : Bool) (history : List HistoryEntry) (e : HistoryEntry) → grown b history e ≡ history ++ entries_by b e
grown_by true history e = refl
grown_by false history e = sym (append-nil history)

entry_by : (start p q : Panel) (v w : Known) (ask : AskSeen) (a : AnswerSeen) → is_event a ≡ true → AsksInHistory start p v (event ask a q) w
    → IsEntry p (entry_of v (said_at q ask a)) q
entry_by start p q v w ask a is h = record { next = h.next; event = is; number = refl; pair = refl }

same_by : (start p q : Panel) (v w : Known) (ask : AskSeen) (a : AnswerSeen) → is_event a ≡ false → AsksInHistory start p v (event ask a q) w → q ≡ p
same_by start p q v w ask a is h =
    let r : Replied start p v (event ask a q) w = subst (λ (b : Bool). SeatTold b start p v (event ask a q) w) is h.told in r.same

-- the new entries of an ask lead from what was to what is
pub leads_by : (b : Bool) (start p q : Panel) (v w : Known) (ask : AskSeen) (a : AnswerSeen) → is_event a ≡ b → AsksInHistory start p v (event ask a q) w
    → IsHistory p (entries_by b (entry_of v (said_at q ask a))) q
leads_by true start p q v w ask a is h = (q, entry_by start p q v w ask a is h, refl)
leads_by false start p q v w ask a is h = sym (same_by start p q v w ask a is h)

ends_same : (start p q : Panel) (history new : List HistoryEntry) → new ≡ history → q ≡ p → EndsAtRest start history p → EndsAtRest start new q
ends_same start p q history new grew same ends =
    subst (λ (l : List HistoryEntry). EndsAtRest start l q) (sym grew) (subst (λ (x : Panel). EndsAtRest start history x) (sym same) ends)

ends_more : (start p q : Panel) (history : List HistoryEntry) (e : HistoryEntry) → EndsAtRest start history p → is_unasked e.ask ≡ true → IsEntry p e q
    → IsAtRest q → EndsAtRest start (history ++ e ∷ []) q
ends_more start p q history e ends unasked is rest = record {
  before = ends.before;
  abort = ends.abort;
  behind = ends.behind ++ e ∷ [];
  whole = ap (λ (l : List HistoryEntry). l ++ e ∷ []) ends.whole ∙ append_assoc ends.before (ends.abort ++ ends.behind) (e ∷ [])
      ∙ ap (λ (l : List HistoryEntry). ends.before ++ l) (append_assoc ends.abort ends.behind (e ∷ []));
  past = ends.past;
  opened = ends.opened;
  leads = ends.leads;
  aborts = ends.aborts;
  opens = ends.opens;
  rests = stays_more ends.opened ends.behind p e q ends.rests unasked is rest;
}

-- a history that ends at rest does so after what no session asks
pub ends_on : (start p q : Panel) (f : Bool) (history new : List HistoryEntry) (v w : Known) (ask : AskSeen) (a : AnswerSeen) → IsHeld p.cage
    → EndsAtRest start history p → is_unasked ask ≡ true → Step p ask f a q → AsksInHistory start p v (event ask a q) w
    → new ≡ grown (is_event a) history (entry_of v (said_at q ask a)) → EndsAtRest start new q
ends_on start p q f history new v w ask a held ends unasked step asked grew = elim (cases_Bool (is_event a)) [
  | inl event_is ↦ (
      let e : HistoryEntry = entry_of v (said_at q ask a) in
      let more : new ≡ history ++ e ∷ [] = grew ∙ ap (λ (b : Bool). grown b history e) event_is in
      let rest : IsAtRest q = rest_step p ask f a q held (stays_last ends.opened ends.behind p ends.rests) unasked step in
      subst (λ (l : List HistoryEntry). EndsAtRest start l q) (sym more)
      (ends_more start p q history e ends unasked (entry_by start p q v w ask a event_is asked) rest)
      )
  | inr none ↦ ends_same start p q history new (grew ∙ ap (λ (b : Bool). grown b history (entry_of v (said_at q ask a))) none)
      (same_by start p q v w ask a none asked) ends
]

-- so too where whether it was at rest, and whether no session asks, tell whether it is so behind the ask
pub ends_where : (start p q : Panel) (f : Bool) (history new : List HistoryEntry) (v w : Known) (ask : AskSeen) (a : AnswerSeen) (before after : Bool)
    → IsHeld p.cage → (before ≡ true → EndsAtRest start history p) → after ≡ (before && is_unasked ask) → Step p ask f a q
    → AsksInHistory start p v (event ask a q) w → new ≡ grown (is_event a) history (entry_of v (said_at q ask a)) → after ≡ true → EndsAtRest start new q
ends_where start p q f history new v w ask a before after held ends is step asked grew at =
    let both = and_parts before (is_unasked ask) (sym is ∙ at) in
    ends_on start p q f history new v w ask a held (ends both.0) both.1 step asked grew
