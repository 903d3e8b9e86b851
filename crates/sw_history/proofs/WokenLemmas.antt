-- Whoever may go on is woken: a step that takes no turn ends nothing that holds an ask.
use Rattle.std.proofs.Common.{◌≡◌, ◌==◌, ◌+◌, ◌≤◌, ◌&&◌, ◌||◌, not, ℕ, Bool, true, false, true≢false, List, Option, None, Some, is_some}
use Rattle.std.proofs.Common.{refl, ap, sym, subst, ◌∙◌, arith, ◌↔◌, if◌then◌else◌, inl, inr, Result, Ok, Err}
use Rattle.std.specs.Prelude.{MatchBool}
use Rattle.std.proofs.lemmas.Bool.Decides.{nat_tests}
use Rattle.sw_base.specs.declared.error.ScpiError.{ScpiError}
use Rattle.sw_base.specs.declared.error.ScpiError.TheVariants.{OutOfMemory, SettingsConflict, HardwareError}
use Rattle.sw_card.specs.declared.board.CardFault.{CardFault}
use Rattle.sw_base.specs.declared.reading.Reading.{Reading}
use Rattle.sw_lex.specs.declared.command.Command.{Command}
use Rattle.sw_hislip.specs.LockTable.{LockTable, admits, excludes, shares, without_exclusive, with_key}
use Rattle.sw_hislip.specs.declared.locks.Released.TheVariants as Freed
use Rattle.sw_verify.specs.declared.snapshot.Snapshot.{Snapshot}
use Rattle.sw_cage.specs.Cage.{ScanSeen, CageSeen}
use Rattle.sw_cage.specs.Outcome.{AdvancesPastFrom, Counts, with_back, with_reading}
use Rattle.sw_cage.specs.Work.{FinishedSeen}
use Rattle.sw_cage.specs.TakenSeen.{TakenSeen, SaysIgnored, SaysWaits, SaysPause, SaysJob, SaysEnded, SaysFault}
use Rattle.sw_cage.specs.declared.taken.Happening.{Happening}
use Rattle.sw_cage.specs.declared.taken.Happening.TheVariants.{Bus, External, Elapsed}
use Rattle.sw_core.specs.declared.ask.Sid.{Sid}
use Rattle.sw_core.specs.declared.ask.SessionAsk.{SessionAsk}
use Rattle.sw_core.specs.declared.ask.SessionAsk.TheVariants as Ask
use Rattle.sw_core.specs.declared.ask.SessionAnswer.{SessionAnswer}
use Rattle.sw_core.specs.declared.ask.SessionAnswer.TheVariants as answers
use Rattle.sw_core.specs.declared.ask.SessionAnswer.TheVariants.{Joined, Full, Stranger, Broken, Done, Missed, Max, Lock, Info, Refused, Hold, Worn}
use Rattle.sw_core.specs.Panel.{Panel, is_running}
use Rattle.sw_core.specs.Event.{concluded, session_concluded, last_number}
use Rattle.sw_core.specs.Seats.{asker_of, is_shut_out, StepSeat, StepLock, Locks, released_code}
use Rattle.sw_core.specs.Sessions.{SessionsSeen, IsJoined, seat_of}
use Rattle.sw_core.specs.Step.{Happens, StepSnapshot, StepStart, IsServed, StepJoined, drops, shuts_out, StepAdmitted}
use Rattle.sw_core.specs.Step.{StepJoin, StepAttach, StepSession, outside_told, Returns, StepFinished, Acts, acts_unnumbered}
use Rattle.sw_core.specs.Step.{IsEvent, IsUnnumbered, Step}
use Rattle.sw_core.specs.Seen.{WorkSeen, AskSeen, AskSession, AskInstall, AskEject, AskExternal, AskElapsed, AskFinished, AnswerSeen, SaysSession}
use Rattle.sw_core.specs.Seen.{SaysInstalled, SaysNotInstalled, SaysEjected, SaysNotEjected, SaysTaken, SaysMissed, SaysFailed, SaysBack, SaysWorn}
use Rattle.sw_history.specs.declared.waking.WakeScope.{WakeScope}
use Rattle.sw_history.specs.declared.waking.WakeScope.TheVariants.{Nobody, ScanBy, Scan}
use Rattle.sw_history.specs.History.{AwaitsEnd}
use Rattle.sw_history.specs.Shares.{is_session_event, is_event, is_counted, one_if}
use Rattle.sw_history.specs.Waking.{may_end, scope_of, changes_seats, may_be_over, wakes, next_turn, turn_after, TellsScan, HoldsOn, WhoMayGoOnIsWoken}
use Rattle.sw_history.proofs.CommandedLemmas.{Leaves, leaves_unit, happens_seats}
use Rattle.sw_history.proofs.CountedLemmas.{step_counted}
use Rattle.sw_history.proofs.HoldsLemmas.{Keeps, keeps_seats, held_again, by_tests, opc, awaits, awaits_from}
use Rattle.sw_history.proofs.SeatedLemmas.{keeps_tables, seat_placed, keeps_seat, keeps_joined, keeps_attached}
use Rattle.sw_history.proofs.UnmovedLemmas.{step_unmoved}

-- ---- turns and numbers

turns_on : (b : Bool) (turn : ℕ) → (turn == last_number) ≡ b → (if b then 0 else turn + 1) ≡ turn → ⊥
turns_on true turn e h = grind (arith, nat_tests)
turns_on false turn e h = omega (arith, h)

-- where the turn stays, nobody was to go on, and a number is left
stays_turn : (go last : Bool) (turn : ℕ) → (if go || last then next_turn turn else turn) ≡ turn → (go ≡ false) × (last ≡ false)
stays_turn true last turn h = absurd (turns_on (turn == last_number) turn refl h)
stays_turn false true turn h = absurd (turns_on (turn == last_number) turn refl h)
stays_turn false false turn h = (refl, refl)

uncounted : (b : Bool) → (b && false) ≡ false
uncounted true = refl
uncounted false = refl

full_stays : (p q n : ℕ) → (p == n) ≡ true → q ≡ p + 0 → (q == n) ≡ false → ⊥
full_stays p q n e c k = grind (arith, nat_tests)

numbered_at : (b : Bool) (p : Panel) (ask : AskSeen) (f : Bool) (a : AnswerSeen) (q : Panel) → (p.events == last_number) ≡ b → Step p ask f a q
    → (q.events == last_number) ≡ false → b ≡ false
numbered_at false p ask f a q e h k = refl
numbered_at true p ask f a q e h k =
    let most : p.events ≤ last_number = grind (arith, nat_tests) in
    let none : is_counted p.events a ≡ false = ap (λ (b : Bool). is_event a && not b) e ∙ uncounted (is_event a) in
    absurd (full_stays p.events q.events last_number e (step_counted p ask f a q most h ∙ ap (λ (b : Bool). p.events + one_if b) none) k)

-- a number was left before where one is left after
numbered : (p : Panel) (ask : AskSeen) (f : Bool) (a : AnswerSeen) (q : Panel) → Step p ask f a q → (q.events == last_number) ≡ false
    → (p.events == last_number) ≡ false
numbered p ask f a q h k = numbered_at (p.events == last_number) p ask f a q refl h k

-- ---- what a step keeps

same_keeps : (p q : Panel) → q ≡ p → Keeps p q
same_keeps p q e = keeps_seats p q (ap (λ (x : Panel). x.sessions) e) (λ r. ap is_running e ∙ r)

as_keeps : (p q r : Panel) → q ≡ r → Keeps p r → Keeps p q
as_keeps p q r e k = subst (λ (x : Panel). Keeps p x) (sym e) k

-- an ask that was admitted
pub record IsAdmitted (p : Panel) (sid : Sid) (w : SessionAsk) (f : Bool) (a : SessionAnswer) (o : Option WorkSeen) (q : Panel) : Type 0 where
  pub joined : IsJoined p.sessions sid
  pub kept : drops p sid w ≡ false
  pub unshut : shuts_out p sid w ≡ false
  pub step : StepJoined p w f a o q

by_admission : (drop shut : Bool) (p : Panel) (w : SessionAsk) (f : Bool) (a : SessionAnswer) (o : Option WorkSeen) (q : Panel)
    → is_session_event a ≡ true → StepAdmitted (by_tests drop shut) p w f a o q → (drop ≡ false) × (shut ≡ false) × StepJoined p w f a o q
by_admission true shut p w f Broken None q e h = absurd (true≢false (sym e))
by_admission true shut p w f a o q e h = absurd h
by_admission false true p w f (Hold back) None q e h = absurd (true≢false (sym e))
by_admission false true p w f a o q e h = absurd h
by_admission false false p w f a o q e h = (refl, refl, h)

admitted : (sid : Sid) (p : Panel) (w : SessionAsk) (f : Bool) (a : SessionAnswer) (o : Option WorkSeen) (q : Panel) → is_session_event a ≡ true
    → StepSession (Some sid) p w f a o q → IsAdmitted p sid w f a o q
admitted sid p w f Stranger None q e h = absurd (true≢false (sym e))
admitted sid p w f a o q e h =
    let t = by_admission (drops p sid w) (shuts_out p sid w) p w f a o q e h.1 in
    record { joined = h.0; kept = t.0; unshut = t.1; step = t.2 }

-- what is told of the scan before and after, by which nobody may go on
by_scan : (ran runs : Bool) (p q : Panel) (sid : Sid) → (ran && not runs) ≡ false → (ran ≡ true) ↔ AwaitsEnd p sid → (runs ≡ true) ↔ AwaitsEnd q sid
    → (p.events == last_number) ≡ false → IsJoined p.sessions sid → drops p sid (opc sid) ≡ false → shuts_out p sid (opc sid) ≡ false
    → q.sessions ≡ p.sessions → is_running p ≡ true → is_running q ≡ true
by_scan false runs p q sid w b c n j d s same r = absurd (true≢false (sym (b.1 (awaits_from p sid n j d s r))))
by_scan true false p q sid w b c n j d s same r = absurd (true≢false w)
by_scan true true p q sid w b c n j d s same r =
    let free : shuts_out q sid (opc sid) ≡ false = ap (λ (x : SessionsSeen). not (admits x.locks sid.number) && is_shut_out (opc sid)) same ∙ s in
    sym (ap (λ (x : Bool). x || is_running q) free) ∙ (awaits q sid (c.0 refl)).waits

-- of a session's unit or trigger that may end a scan
scan_keeps : (ran runs : Bool) (p q done : Panel) (sid : Sid) → (ran && not runs) ≡ false → (ran ≡ true) ↔ AwaitsEnd p sid
    → (runs ≡ true) ↔ AwaitsEnd q sid → (p.events == last_number) ≡ false → IsJoined p.sessions sid → drops p sid (opc sid) ≡ false
    → shuts_out p sid (opc sid) ≡ false → done.sessions ≡ p.sessions → q.sessions ≡ done.sessions → is_running q ≡ is_running done → Keeps p done
scan_keeps ran runs p q done sid w b c n j d s same after run =
    keeps_seats p done same (λ r. sym run ∙ by_scan ran runs p q sid w b c n j d s (after ∙ same) r)

after_event : (b c : Bool) → b ≡ true → (b && c) ≡ false → c ≡ false
after_event true c e h = h
after_event false c e h = absurd (true≢false (sym e))

-- what is known of an event after which nobody goes on: a number was left before it, what was told of the scan, and the panel after its end
pub record Silent (ask : AskSeen) (p : Panel) (a : AnswerSeen) (ran runs : Bool) (done q : Panel) : Type 0 where
  pub number : (p.events == last_number) ≡ false
  pub event : is_event a ≡ true
  pub before : TellsScan (scope_of ask) p ran
  pub after : TellsScan (scope_of ask) q runs
  pub silent : wakes (scope_of ask) ran runs a ≡ false
  pub seats : q.sessions ≡ done.sessions
  pub scan : is_running q ≡ is_running done

-- a unit that may end a scan is of that scope
abbrev by_ends : Bool → Sid → WakeScope
by_ends ends sid = if ends then ScanBy sid else Nobody

unit_keeps : (ends : Bool) (p : Panel) (sid : Sid) (command : Command) (available : Bool) (f : Bool) (a : SessionAnswer) (o : Option WorkSeen)
    (ran runs : Bool) (done q : Panel) → may_end command ≡ ends → Leaves (may_end command) p done
    → TellsScan (by_ends ends sid) p ran × TellsScan (by_ends ends sid) q runs × (wakes (by_ends ends sid) ran runs (SaysSession a o) ≡ false)
    → (p.events == last_number) ≡ false → is_session_event a ≡ true → IsAdmitted p sid (Ask.Unit sid command available) f a o done
    → q.sessions ≡ done.sessions → is_running q ≡ is_running done → Keeps p done
unit_keeps true p sid command available f a o ran runs done q e l t n is h s r =
    scan_keeps ran runs p q done sid (after_event (is_session_event a) (ran && not runs) is t.2) t.0 t.1 n h.joined h.kept h.unshut l.seats s r
unit_keeps false p sid command available f a o ran runs done q e l t n is h s r = keeps_seats p done l.seats (l.scan e)

served_as : (p q : Panel) (t : SessionsSeen) → q ≡ record p { sessions = t } → t.seats ≡ p.sessions.seats → t.locks ≡ p.sessions.locks → Keeps p q
served_as p q t e s l = as_keeps p q (record p { sessions = t }) e (keeps_tables p (record p { sessions = t }) s l (λ r. r))

served_same : (p q : Panel) (t : SessionsSeen) → q ≡ record p { sessions = t } → t ≡ p.sessions → Keeps p q
served_same p q t e s = served_as p q t e (ap (λ (x : SessionsSeen). x.seats) s) (ap (λ (x : SessionsSeen). x.locks) s)

not_three : (code n : ℕ) → code ≡ n → (n == 3) ≡ false → not (code == 3) ≡ false → ⊥
not_three code n e k h = grind (arith, nat_tests)

locked_same : (code : ℕ) (l m : LockTable) (number : ℕ) (key : List ℕ) → not (code == 3) ≡ false → Locks l number key code m → m ≡ l
locked_same code l m number key n (inl h) = absurd (not_three code 1 h.0 refl n)
locked_same code l m number key n (inr (inl h)) = h.1.1
locked_same code l m number key n (inr (inr h)) = h.2

released_same : (e s : Bool) (code : ℕ) (l : LockTable) (number : ℕ) → not (code == 3) ≡ false
    → code ≡ released_code (if e then Freed.Exclusive else (if s then Freed.Shared else Freed.Nothing))
    → (if e then without_exclusive l else (if s then with_key l number None else l)) ≡ l
released_same true s code l number n h = absurd (not_three code 1 h refl n)
released_same false true code l number n h = absurd (not_three code 2 h refl n)
released_same false false code l number n h = refl

-- a lock's ask, or a release, that leaves the locks
lock_keeps : (p : Panel) (sid : Sid) (key : List ℕ) (a : SessionAnswer) (o : Option WorkSeen) (q : Panel) (t : SessionsSeen) → is_session_event a ≡ true
    → changes_seats (SaysSession a o) ≡ false → StepLock p.sessions sid key a t → q ≡ record p { sessions = t } → Keeps p q
lock_keeps p sid key (Lock code) o q t e n h is = served_as p q t is h.1 (locked_same code p.sessions.locks t.locks sid.number key n h.0)
lock_keeps p sid key (Hold back) o q t e n h is = absurd (true≢false (sym e))
lock_keeps p sid key a o q t e n h is = absurd h

seat_keeps : (p : Panel) (w : SessionAsk) (f : Bool) (a : SessionAnswer) (o : Option WorkSeen) (q : Panel) (sid : Sid) → asker_of w ≡ Some sid
    → IsJoined p.sessions sid → is_session_event a ≡ true
    → (ran runs : Bool) → wakes (scope_of (AskSession w)) ran runs (SaysSession a o) ≡ false
    → (t : SessionsSeen) → StepSeat p.sessions w a t → q ≡ record p { sessions = t } → Keeps p q
seat_keeps p (Ask.Leave s) f (Done None) o q sid k j e ran runs n t h is = absurd (true≢false n)
seat_keeps p (Ask.Attached s) f (Done None) o q sid k j e ran runs n t h is = served_same p q t is h.1
seat_keeps p (Ask.Attached s) f Missed o q sid k j e ran runs n t h is = served_same p q t is h.1
seat_keeps p (Ask.Size s size) f (Done None) o q sid k j e ran runs n t h is =
    let at : s ≡ sid = cc (k) in
    let b = seat_placed p.sessions s (subst (λ (x : Sid). IsJoined p.sessions x) (sym at) j) in
    keeps_seat p q s.number (record (seat_of p.sessions s.number) { size = size }) b.0 b.1 refl (λ c. c)
    (ap (λ (x : Panel). x.sessions) is ∙ h) (λ r. ap is_running is ∙ r)
seat_keeps p (Ask.MaxSize s) f (Max size) o q sid k j e ran runs n t h is = served_same p q t is h.1
seat_keeps p (Ask.Clear s) f (Done None) o q sid k j e ran runs n t h is = absurd (true≢false n)
seat_keeps p (Ask.Cleared s) f (Done None) o q sid k j e ran runs n t h is =
    let at : s ≡ sid = cc (k) in
    let b = seat_placed p.sessions s (subst (λ (x : Sid). IsJoined p.sessions x) (sym at) j) in
    keeps_seat p q s.number (record (seat_of p.sessions s.number) { clearing = false }) b.0 b.1 refl (λ c. refl)
    (ap (λ (x : Panel). x.sessions) is ∙ h) (λ r. ap is_running is ∙ r)
seat_keeps p (Ask.Lock s key) f a o q sid k j e ran runs n t h is =
    lock_keeps p s key a o q t e (after_event (is_session_event a) (changes_seats (SaysSession a o)) e n) h is
seat_keeps p (Ask.Release s) f (Lock code) o q sid k j e ran runs n t h is =
    let l = p.sessions.locks in
    served_as p q t is (ap (λ (x : SessionsSeen). x.seats) h.1)
    (ap (λ (x : SessionsSeen). x.locks) h.1 ∙ released_same (excludes l s.number) (shares l s.number) code l s.number n h.0)
seat_keeps p (Ask.LockInfo s) f (Info exclusive m) o q sid k j e ran runs n t h is = served_same p q t is h.2
seat_keeps p w f a o q sid k j e ran runs n t h is = absurd h

pub snapshot_keeps : (p : Panel) (f : Bool) (a : SessionAnswer) (q : Panel) → StepSnapshot p f a q → Keeps p q
snapshot_keeps p f (answers.Snapshot s number) q h = same_keeps p q h.3
snapshot_keeps p f (Refused OutOfMemory) q h = same_keeps p q h.2
snapshot_keeps p f (Refused e) q h = same_keeps p q h.2
snapshot_keeps p f a q h = absurd h

-- no scan ran before one begins
idle_keeps : (p q : Panel) → q.sessions ≡ p.sessions → is_running p ≡ false → Keeps p q
idle_keeps p q s i = keeps_seats p q s (λ r. absurd (true≢false (sym r ∙ i)))

pub start_keeps : (p : Panel) (plan : Snapshot) (f : Bool) (a : SessionAnswer) (o : Option WorkSeen) (q : Panel) → StepStart p plan f a o q → Keeps p q
start_keeps p plan f (Done None) o q h = idle_keeps p q (ap (λ (x : Panel). x.sessions) h.starts.4) h.may.idle
start_keeps p plan f (Refused HardwareError) o q h = idle_keeps p q (ap (λ (x : Panel). x.sessions) h.starts.4) h.may.idle
start_keeps p plan f (Refused OutOfMemory) None q h = same_keeps p q h.3
start_keeps p plan f (Refused SettingsConflict) None q h = same_keeps p q h.2
start_keeps p plan f (Refused e) None q h = same_keeps p q h.2
start_keeps p plan f a o q h = absurd h

pub fault_keeps : (p : Panel) (sid : Sid) (e : ScpiError) (f : Bool) (a : SessionAnswer) (o : Option WorkSeen) (q : Panel)
    → StepJoined p (Ask.Fault sid e) f a o q → Keeps p q
fault_keeps p sid e f (Done None) None q h = as_keeps p q (record p { status = _ }) h.1 (keeps_seats p (record p { status = _ }) refl (λ r. r))
fault_keeps p sid e f a None q h = absurd h.served
fault_keeps p sid e f a o q h = absurd h

-- what is asked of the seat alone
served_keeps : (p : Panel) (w : SessionAsk) (f : Bool) (a : SessionAnswer) (o : Option WorkSeen) (q : Panel) (sid : Sid) → asker_of w ≡ Some sid
    → IsJoined p.sessions sid → is_session_event a ≡ true
    → (ran runs : Bool) → wakes (scope_of (AskSession w)) ran runs (SaysSession a o) ≡ false → IsServed p w f a q → Keeps p q
served_keeps p w f a o q sid k j e ran runs n h = seat_keeps p w f a o q sid k j e ran runs n h.sessions h.served h.after

known_keeps : (p : Panel) (w : SessionAsk) (f : Bool) (a : SessionAnswer) (o : Option WorkSeen) (done q : Panel) (sid : Sid) (ran runs : Bool)
    → asker_of w ≡ Some sid → IsAdmitted p sid w f a o done → Silent (AskSession w) p (SaysSession a o) ran runs done q → Keeps p done
known_keeps p (Ask.Unit s command available) f a o done q sid ran runs k h i =
    let at : sid ≡ s = cc (k) in
    let here : IsAdmitted p s (Ask.Unit s command available) f a o done =
    subst (λ (x : Sid). IsAdmitted p x (Ask.Unit s command available) f a o done) at h in
    unit_keeps (may_end command) p s command available f a o ran runs done q refl
    (leaves_unit available command p (Ask.Unit s command available) f a o done h.step) (i.before, i.after, i.silent) i.number i.event here i.seats i.scan
known_keeps p (Ask.Bus s) f a o done q sid ran runs k h i =
    let at : sid ≡ s = cc (k) in
    let here : IsAdmitted p s (Ask.Bus s) f a o done = subst (λ (x : Sid). IsAdmitted p x (Ask.Bus s) f a o done) at h in
    scan_keeps ran runs p q done s (after_event (is_session_event a) (ran && not runs) i.event i.silent) i.before i.after i.number here.joined here.kept
    here.unshut (happens_seats p Bus f h.step.told done h.step.happens) i.seats i.scan
known_keeps p (Ask.Fault s e) f a o done q sid ran runs k h i = fault_keeps p s e f a o done h.step
known_keeps p (Ask.Snapshot s) f a None done q sid ran runs k h i = snapshot_keeps p f a done h.step
known_keeps p (Ask.Snapshot s) f a (Some x) done q sid ran runs k h i = absurd h.step
known_keeps p (Ask.Start s plan) f a o done q sid ran runs k h i = start_keeps p plan f a o done h.step
known_keeps p Ask.Join f a o done q sid ran runs k h i = absurd (cc (k))
known_keeps p (Ask.Attach number) f a o done q sid ran runs k h i = absurd (cc (k))
known_keeps p (Ask.Attached s) f a None done q sid ran runs k h i =
    served_keeps p (Ask.Attached s) f a None done sid k h.joined i.event ran runs i.silent h.step
known_keeps p (Ask.Leave s) f a None done q sid ran runs k h i = served_keeps p (Ask.Leave s) f a None done sid k h.joined i.event ran runs i.silent h.step
known_keeps p (Ask.Size s m) f a None done q sid ran runs k h i = served_keeps p (Ask.Size s m) f a None done sid k h.joined i.event ran runs i.silent h.step
known_keeps p (Ask.MaxSize s) f a None done q sid ran runs k h i =
    served_keeps p (Ask.MaxSize s) f a None done sid k h.joined i.event ran runs i.silent h.step
known_keeps p (Ask.Clear s) f a None done q sid ran runs k h i = served_keeps p (Ask.Clear s) f a None done sid k h.joined i.event ran runs i.silent h.step
known_keeps p (Ask.Cleared s) f a None done q sid ran runs k h i =
    served_keeps p (Ask.Cleared s) f a None done sid k h.joined i.event ran runs i.silent h.step
known_keeps p (Ask.Lock s key) f a None done q sid ran runs k h i =
    served_keeps p (Ask.Lock s key) f a None done sid k h.joined i.event ran runs i.silent h.step
known_keeps p (Ask.Release s) f a None done q sid ran runs k h i =
    served_keeps p (Ask.Release s) f a None done sid k h.joined i.event ran runs i.silent h.step
known_keeps p (Ask.LockInfo s) f a None done q sid ran runs k h i =
    served_keeps p (Ask.LockInfo s) f a None done sid k h.joined i.event ran runs i.silent h.step
known_keeps p w f a o done q sid ran runs k h i = absurd h.step

pub join_keeps : (p : Panel) (f : Bool) (a : SessionAnswer) (o : Option WorkSeen) (q : Panel) → StepJoin p f a o q → Keeps p q
join_keeps p f (Joined sid) None q h =
    keeps_joined p q sid.number _ h.1 (ap (λ (x : Panel). x.sessions) h.3) (λ r. ap is_running h.3 ∙ r)
join_keeps p f Full None q h = same_keeps p q h.2
join_keeps p f a o q h = absurd h

pub attach_keeps : (p : Panel) (number : ℕ) (f : Bool) (a : SessionAnswer) (o : Option WorkSeen) (q : Panel) → StepAttach p number f a o q → Keeps p q
attach_keeps p number f (Joined sid) None q h = keeps_attached p q number sid h.1 (λ r. ap is_running h.2 ∙ r)
attach_keeps p number f Stranger None q h = same_keeps p q h.2
attach_keeps p number f a o q h = absurd h

session_keeps : (w : SessionAsk) (by : Option Sid) (p : Panel) (f : Bool) (a : SessionAnswer) (o : Option WorkSeen) (done q : Panel) (ran runs : Bool)
    → asker_of w ≡ by → StepSession by p w f a o done → Silent (AskSession w) p (SaysSession a o) ran runs done q → Keeps p done
session_keeps w (Some sid) p f a o done q ran runs k h i =
    known_keeps p w f a o done q sid ran runs k (admitted sid p w f a o done i.event h) i
session_keeps Ask.Join None p f a o done q ran runs k h i = join_keeps p f a o done h
session_keeps (Ask.Attach number) None p f a o done q ran runs k h i = attach_keeps p number f a o done h
session_keeps w None p f a o done q ran runs k h i = absurd h

-- ---- what no session asks

-- a scan that has come to a pause or to a reading runs
pause_runs : (c d : CageSeen) (scan : Option ScanSeen) (ticket : _) (micros : ℕ) → AdvancesPastFrom c scan (SaysPause ticket micros) d
    → is_some d.scan ≡ true
pause_runs c d None ticket micros h = absurd h
pause_runs c d (Some at) ticket micros h = ap is_some h.runs.arrives.3

job_runs : (c d : CageSeen) (scan : Option ScanSeen) (job : _) → AdvancesPastFrom c scan (SaysJob job) d → is_some d.scan ≡ true
job_runs c d None job h = absurd h
job_runs c d (Some at) job h = ap is_some h.runs.arrives.2

ends_told : (told : TakenSeen) (a : AnswerSeen) (b : Bool) → a ≡ outside_told told → may_be_over a ≡ false → may_be_over (outside_told told) ≡ b → b ≡ false
ends_told told a b is n e = sym e ∙ (sym (ap may_be_over is) ∙ n)

outside_keeps : (p : Panel) (happening : Happening) (f : Bool) (told : TakenSeen) (a : AnswerSeen) (q : Panel) → may_be_over a ≡ false
    → a ≡ outside_told told → Happens p happening f told q → Keeps p q
outside_keeps p happening f SaysIgnored a q n is h = same_keeps p q h.2
outside_keeps p happening f SaysWaits a q n is h = absurd (true≢false (ends_told SaysWaits a true is n refl))
outside_keeps p happening f (SaysPause ticket micros) a q n is h =
    keeps_seats p q (happens_seats p happening f (SaysPause ticket micros) q h) (λ r. pause_runs p.cage q.cage p.cage.scan ticket micros h.1)
outside_keeps p happening f (SaysJob job) a q n is h =
    keeps_seats p q (happens_seats p happening f (SaysJob job) q h) (λ r. job_runs p.cage q.cage p.cage.scan job h.1)
outside_keeps p happening f SaysEnded a q n is h = absurd (true≢false (ends_told SaysEnded a true is n refl))
outside_keeps p happening f SaysFault a q n is h = absurd (true≢false (ends_told SaysFault a true is n refl))

counted_pause : (c d : CageSeen) (outcome : Result Reading CardFault) (ticket : _) (micros : ℕ) → Counts c outcome (SaysPause ticket micros) d
    → is_some d.scan ≡ true
counted_pause c d (Ok r) ticket micros h = pause_runs (with_reading c r) d c.scan ticket micros h
counted_pause c d (Err e) ticket micros h = absurd (cc (h.0))

counted_job : (c d : CageSeen) (outcome : Result Reading CardFault) (job : _) → Counts c outcome (SaysJob job) d → is_some d.scan ≡ true
counted_job c d (Ok r) job h = job_runs (with_reading c r) d c.scan job h
counted_job c d (Err e) job h = absurd (cc (h.0))

returned_keeps : (p : Panel) (done : FinishedSeen) (f : Bool) (told : TakenSeen) (a : AnswerSeen) (q : Panel) → may_be_over a ≡ false
    → a ≡ outside_told told → Returns p done f told q → Keeps p q
returned_keeps p done f SaysIgnored a q n is h =
    keeps_seats p q (ap (λ (x : Panel). x.sessions) h.2) (λ r. ap is_running h.2 ∙ r)
returned_keeps p done f SaysWaits a q n is h = absurd (true≢false (ends_told SaysWaits a true is n refl))
returned_keeps p done f (SaysPause ticket micros) a q n is h =
    keeps_seats p q (ap (λ (x : Panel). x.sessions) h.2.1) (λ r. counted_pause (with_back p.cage done) q.cage done.outcome ticket micros h.1)
returned_keeps p done f (SaysJob job) a q n is h =
    keeps_seats p q (ap (λ (x : Panel). x.sessions) h.2.1) (λ r. counted_job (with_back p.cage done) q.cage done.outcome job h.1)
returned_keeps p done f SaysEnded a q n is h = absurd (true≢false (ends_told SaysEnded a true is n refl))
returned_keeps p done f SaysFault a q n is h = absurd (true≢false (ends_told SaysFault a true is n refl))

finished_keeps : (p : Panel) (done : FinishedSeen) (f : Bool) (a : AnswerSeen) (q : Panel) → may_be_over a ≡ false → StepFinished p done f a q → Keeps p q
finished_keeps p done f SaysBack q n h = same_keeps p q h.2
finished_keeps p done f a q n h = returned_keeps p done f h.told a q n h.answer_is h.returns

over_not : {ask : AskSeen} {p : Panel} {a : AnswerSeen} {ran runs : Bool} {done q : Panel} → scope_of ask ≡ Scan → Silent ask p a ran runs done q
    → may_be_over a ≡ false
over_not {ask} {p} {a} {ran} {runs} k i =
    after_event (is_event a) (may_be_over a) i.event (sym (ap (λ (c : WakeScope). wakes c ran runs a) k) ∙ i.silent)

acts_keeps : (p : Panel) (ask : AskSeen) (f : Bool) (a : AnswerSeen) (done q : Panel) (ran runs : Bool) → Acts p ask f a done
    → Silent ask p a ran runs done q → Keeps p done
acts_keeps p (AskSession w) f (SaysSession a o) done q ran runs h i = session_keeps w (asker_of w) p f a o done q ran runs refl h i
acts_keeps p (AskInstall slot card) f SaysInstalled done q ran runs h i = idle_keeps p done (ap (λ (x : Panel). x.sessions) h.4) h.1
acts_keeps p (AskInstall slot card) f (SaysNotInstalled refusal) done q ran runs h i = same_keeps p done h.2
acts_keeps p (AskEject slot) f (SaysEjected card) done q ran runs h i = absurd (true≢false i.silent)
acts_keeps p (AskEject slot) f (SaysNotEjected refusal) done q ran runs h i = same_keeps p done h.2
acts_keeps p AskExternal f a done q ran runs h i = outside_keeps p External f h.told a done (over_not refl i) h.answer_is h.happens
acts_keeps p (AskElapsed ticket) f a done q ran runs h i = outside_keeps p (Elapsed ticket) f h.told a done (over_not refl i) h.answer_is h.happens
acts_keeps p (AskFinished back) f a done q ran runs h i = finished_keeps p back f a done (over_not refl i) h
acts_keeps p ask f a done q ran runs h i = absurd h

-- ---- events

-- the end of an event moves neither seats nor scan
session_ends : (a : SessionAnswer) (p : Panel) → ((session_concluded a p).sessions ≡ p.sessions) × (is_running (session_concluded a p) ≡ is_running p)
session_ends Stranger p = (refl, refl)
session_ends Broken p = (refl, refl)
session_ends (Hold ask) p = (refl, refl)
session_ends (Worn ask) p = (refl, refl)
session_ends (Refused e) p = (refl, refl)
session_ends (Joined sid) p = (refl, refl)
session_ends Full p = (refl, refl)
session_ends (Done text) p = (refl, refl)
session_ends (answers.Snapshot s number) p = (refl, refl)
session_ends Missed p = (refl, refl)
session_ends (Max n) p = (refl, refl)
session_ends (Lock code) p = (refl, refl)
session_ends (Info exclusive n) p = (refl, refl)

pub event_ends : (a : AnswerSeen) (p : Panel) → ((concluded a p).sessions ≡ p.sessions) × (is_running (concluded a p) ≡ is_running p)
event_ends (SaysSession a o) p = session_ends a p
event_ends SaysInstalled p = (refl, refl)
event_ends (SaysNotInstalled refusal) p = (refl, refl)
event_ends (SaysEjected card) p = (refl, refl)
event_ends (SaysNotEjected refusal) p = (refl, refl)
event_ends (SaysTaken work) p = (refl, refl)
event_ends SaysMissed p = (refl, refl)
event_ends SaysFailed p = (refl, refl)
event_ends SaysBack p = (refl, refl)
event_ends SaysWorn p = (refl, refl)

keeps_end : (p done q : Panel) → q.sessions ≡ done.sessions → is_running q ≡ is_running done → Keeps p done → Keeps p q
keeps_end p done q s r k = record {
  joined = λ sid h. subst (λ (x : SessionsSeen). IsJoined x sid) (sym s) (k.joined sid h);
  clear = λ sid h c. ap (λ (x : SessionsSeen). (seat_of x sid.number).clearing) s ∙ k.clear sid h c;
  locks = ap (λ (x : SessionsSeen). x.locks) s ∙ k.locks;
  scan = λ h. r ∙ k.scan h;
}

event_keeps : (p : Panel) (ask : AskSeen) (f : Bool) (a : AnswerSeen) (q : Panel) (ran runs : Bool) → IsEvent p ask f a q
    → (p.events == last_number) ≡ false → is_event a ≡ true → TellsScan (scope_of ask) p ran → TellsScan (scope_of ask) q runs
    → wakes (scope_of ask) ran runs a ≡ false → Keeps p q
event_keeps p ask f a q ran runs h n e b c w =
    let s : q.sessions ≡ h.done.sessions = ap (λ (x : Panel). x.sessions) h.after ∙ (event_ends a h.done).0 in
    let r : is_running q ≡ is_running h.done = ap is_running h.after ∙ (event_ends a h.done).1 in
    keeps_end p h.done q s r (acts_keeps p ask f a h.done q ran runs h.acts
    (record { number = n; event = e; before = b; after = c; silent = w; seats = s; scan = r }))

by_number : (b : Bool) (p : Panel) (ask : AskSeen) (f : Bool) (a : AnswerSeen) (q : Panel) (ran runs : Bool)
    → MatchBool b (IsUnnumbered p ask f a q) (IsEvent p ask f a q) → (p.events == last_number) ≡ false → is_event a ≡ true
    → TellsScan (scope_of ask) p ran → TellsScan (scope_of ask) q runs → wakes (scope_of ask) ran runs a ≡ false → Keeps p q
by_number true p ask f a q ran runs h n e b c w = same_keeps p q h.same
by_number false p ask f a q ran runs h n e b c w = event_keeps p ask f a q ran runs h n e b c w

by_event : (is : Bool) (p : Panel) (ask : AskSeen) (f : Bool) (a : AnswerSeen) (q : Panel) (ran runs : Bool) → is_event a ≡ is → Step p ask f a q
    → (p.events == last_number) ≡ false → TellsScan (scope_of ask) p ran → TellsScan (scope_of ask) q runs
    → wakes (scope_of ask) ran runs a ≡ false → Keeps p q
by_event false p ask f a q ran runs e h n b c w = same_keeps p q (step_unmoved p ask f a q h e)
by_event true p ask f a q ran runs e h n b c w =
    by_number ((p.events == last_number) && not (acts_unnumbered ask)) p ask f a q ran runs h n e b c w

law : (p q : Panel) (ask : AskSeen) (failed : Bool) (answer : AnswerSeen) (ran runs : Bool) (turn : ℕ) → Step p ask failed answer q
    → TellsScan (scope_of ask) p ran → TellsScan (scope_of ask) q runs
    → turn_after turn (wakes (scope_of ask) ran runs answer) q.events ≡ turn → HoldsOn p q
law p q ask failed answer ran runs turn h b c t =
    let s = stays_turn (wakes (scope_of ask) ran runs answer) (q.events == last_number) turn t in
    held_again p q
    (by_event (is_event answer) p ask failed answer q ran runs refl h (numbered p ask failed answer q h s.1) b c s.0) s.1

pub whoever-woken : WhoMayGoOnIsWoken
whoever-woken = record { law = law }
