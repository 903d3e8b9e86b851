-- A session is joined from its Join on until its own Leave: every other step leaves its seat with it.
use Rattle.std.proofs.Common.{◌≡◌, ◌≢◌, ◌==◌, ◌≤◌, ◌<◌, ◌&&◌, not, ℕ, Bool, true, false, List, length, Option, None, Some, inl, inr}
use Rattle.std.proofs.Common.{refl, ap, sym, subst, ◌∙◌, arith}
use Rattle.std.specs.Prelude.{MatchBool}
use Rattle.sw_base.specs.Layout.{slot_at}
use Rattle.sw_base.specs.Limits.{most_sessions}
use Rattle.sw_cage.specs.TakenSeen.{TakenSeen, SaysIgnored, SaysWaits, SaysPause, SaysJob, SaysEnded, SaysFault}
use Rattle.sw_cage.specs.Work.{FinishedSeen}
use Rattle.sw_cage.specs.declared.taken.Happening.TheVariants.{Bus, External, Elapsed}
use Rattle.sw_cage.proofs.SlotChangeLemmas.{slot_cases, slot_set_same}
use Rattle.sw_core.specs.declared.ask.Sid.{Sid}
use Rattle.sw_core.specs.declared.ask.SessionAsk.{SessionAsk}
use Rattle.sw_core.specs.declared.ask.SessionAsk.TheVariants as Ask
use Rattle.sw_core.specs.declared.ask.SessionAnswer.{SessionAnswer}
use Rattle.sw_core.specs.declared.ask.SessionAnswer.TheVariants.{Joined, Stranger, Broken, Done, Missed, Max, Lock, Info, Hold}
use Rattle.sw_core.specs.declared.sessions.Seat.{Seat}
use Rattle.sw_core.specs.Event.{last_number, next_number}
use Rattle.sw_core.specs.Good.{IsGoodPanel}
use Rattle.sw_core.specs.Panel.{Panel}
use Rattle.sw_core.specs.Seats.{asker_of, lacks_second, StepSeat, StepLock}
use Rattle.sw_core.specs.Seen.{WorkSeen, AskSeen, AskSession, AskInstall, AskEject, AskExternal, AskElapsed, AskFinished, AnswerSeen, SaysSession}
use Rattle.sw_core.specs.Seen.{SaysInstalled, SaysNotInstalled, SaysEjected, SaysNotEjected, SaysBack}
use Rattle.sw_core.specs.Sessions.{SessionsSeen, IsJoined, joined_in, seat_in, seat_of, fresh_seat, with_seat}
use Rattle.sw_core.specs.Step.{Admission, Dropped, ShutOut, Admitted, admission, IsServed, StepJoined, StepAdmitted, StepJoin, StepAttach}
use Rattle.sw_core.specs.Step.{StepSession, Returns, StepFinished, Acts, acts_unnumbered, IsEvent, IsUnnumbered, Step}
use Rattle.sw_history.specs.Joined.{SessionsStay}
use Rattle.sw_history.proofs.CommandedLemmas.{leaves_unit, happens_seats}
use Rattle.sw_history.proofs.SeatedLemmas.{seat_placed, joined_once}
use Rattle.sw_history.proofs.WokenLemmas.{snapshot_keeps, start_keeps, fault_keeps, join_keeps, attach_keeps, event_ends}

-- ---- seats

-- who was joined is joined where the sessions are the same
same_joined : (s t : SessionsSeen) (sid : Sid) → t ≡ s → IsJoined s sid → IsJoined t sid
same_joined s t sid e j = subst (λ (x : SessionsSeen). IsJoined x sid) (sym e) j

-- and where only the locks are others
seats_joined : (s t : SessionsSeen) (sid : Sid) → t.seats ≡ s.seats → IsJoined s sid → IsJoined t sid
seats_joined s t sid e j = ap (λ (x : List (Option Seat)). joined_in (slot_at x sid.number)) e ∙ j

panel_joined : (p q : Panel) (sid : Sid) → q ≡ p → IsJoined p.sessions sid → IsJoined q.sessions sid
panel_joined p q sid e j = subst (λ (x : Panel). IsJoined x.sessions sid) (sym e) j

-- one number has another seat, which is still its session's
placed_joined : (s : SessionsSeen) (n : ℕ) (o : Option Seat) (sid : Sid) → 0 < n → n ≤ length s.seats
    → (sid.number ≡ n → joined_in o ≡ Some sid.joined) → IsJoined s sid → IsJoined (with_seat s n o) sid
placed_joined s n o sid low high at j = elim (slot_cases s.seats n sid.number o low high)
    [ inl e ↦ ap joined_in e.1 ∙ at e.0 | inr e ↦ ap joined_in e.1 ∙ j ]

-- a session that asks of its seat has another seat, by which it is joined as before
seated_joined : (s t : SessionsSeen) (v : Seat) (own by sid : Sid) → Some own ≡ Some by → IsJoined s by → IsJoined s sid
    → v.joined ≡ (seat_of s own.number).joined → t ≡ with_seat s own.number (Some v) → IsJoined t sid
seated_joined s t v own by sid k b j e h =
    let is : by ≡ own = cc (k) in
    let at = seat_placed s own (subst (λ (x : Sid). IsJoined s x) is b) in
    let here : sid.number ≡ own.number → Some v.joined ≡ Some sid.joined =
    λ m. ap (λ (x : ℕ). Some x)
    (e ∙ joined_once (slot_at s.seats own.number) sid.joined (subst (λ (x : ℕ). joined_in (slot_at s.seats x) ≡ Some sid.joined) m j)) in
    same_joined (with_seat s own.number (Some v)) t sid h (placed_joined s own.number (Some v) sid at.0 at.1 here j)

-- a number has one session
same_sid : (s : SessionsSeen) (x y : Sid) → IsJoined s x → IsJoined s y → x.number ≡ y.number → x ≡ y
same_sid s x y h k e =
    let some : Some x.joined ≡ Some y.joined = sym h ∙ (ap (λ (m : ℕ). joined_in (slot_at s.seats m)) e ∙ k) in
    let j : x.joined ≡ y.joined = cc (some) in
    ap (λ (m : ℕ). let r : Sid = record { number = m; joined = x.joined } in r) e
    ∙ ap (λ (m : ℕ). let r : Sid = record { number = y.number; joined = m } in r) j

-- ---- a session's asks

lock_joined : (s : SessionsSeen) (own : Sid) (key : List ℕ) (a : SessionAnswer) (t : SessionsSeen) (sid : Sid) → IsJoined s sid → StepLock s own key a t
    → IsJoined t sid
lock_joined s own key (Lock code) t sid j h = seats_joined s t sid h.1 j
lock_joined s own key (Hold back) t sid j h = same_joined s t sid h.2 j
lock_joined s own key a t sid j h = absurd h

-- of the seat and of the locks: who isn't the one that leaves stays
seat_joined : (s : SessionsSeen) (w : SessionAsk) (a : SessionAnswer) (t : SessionsSeen) (by sid : Sid) → asker_of w ≡ Some by → IsJoined s by
    → w ≢ Ask.Leave sid → IsJoined s sid → StepSeat s w a t → IsJoined t sid
seat_joined s (Ask.Leave own) (Done None) t by sid k b n j h =
    let is : by ≡ own = cc (k) in
    let there : IsJoined s own = subst (λ (x : Sid). IsJoined s x) is b in
    let at = seat_placed s own there in
    let away : sid.number ≡ own.number → joined_in None ≡ Some sid.joined =
    λ m. absurd (n (ap (λ (x : Sid). Ask.Leave x) (same_sid s own sid there j (sym m)))) in
    seats_joined (with_seat s own.number None) t sid (ap (λ (x : SessionsSeen). x.seats) h) (placed_joined s own.number None sid at.0 at.1 away j)
seat_joined s (Ask.Attached own) (Done None) t by sid k b n j h = same_joined s t sid h.1 j
seat_joined s (Ask.Attached own) Missed t by sid k b n j h = same_joined s t sid h.1 j
seat_joined s (Ask.Size own size) (Done None) t by sid k b n j h =
    seated_joined s t (record (seat_of s own.number) { size = size }) own by sid k b j refl h
seat_joined s (Ask.MaxSize own) (Max size) t by sid k b n j h = same_joined s t sid h.1 j
seat_joined s (Ask.Clear own) (Done None) t by sid k b n j h =
    seated_joined s t (record (seat_of s own.number) { clearing = true }) own by sid k b j refl h
seat_joined s (Ask.Cleared own) (Done None) t by sid k b n j h =
    seated_joined s t (record (seat_of s own.number) { clearing = false }) own by sid k b j refl h
seat_joined s (Ask.Lock own key) a t by sid k b n j h = lock_joined s own key a t sid j h
seat_joined s (Ask.Release own) (Lock code) t by sid k b n j h = seats_joined s t sid (ap (λ (x : SessionsSeen). x.seats) h.1) j
seat_joined s (Ask.LockInfo own) (Info exclusive m) t by sid k b n j h = same_joined s t sid h.2 j
seat_joined s w a t by sid k b n j h = absurd h

served_joined : (p : Panel) (w : SessionAsk) (f : Bool) (a : SessionAnswer) (q : Panel) (by sid : Sid) → asker_of w ≡ Some by → IsJoined p.sessions by
    → w ≢ Ask.Leave sid → IsJoined p.sessions sid → IsServed p w f a q → IsJoined q.sessions sid
served_joined p w f a q by sid k b n j h =
    same_joined h.sessions q.sessions sid (ap (λ (x : Panel). x.sessions) h.after) (seat_joined p.sessions w a h.sessions by sid k b n j h.served)

done_joined : (p : Panel) (w : SessionAsk) (f : Bool) (a : SessionAnswer) (o : Option WorkSeen) (q : Panel) (by sid : Sid) → asker_of w ≡ Some by
    → IsJoined p.sessions by → w ≢ Ask.Leave sid → IsJoined p.sessions sid → StepJoined p w f a o q → IsJoined q.sessions sid
done_joined p (Ask.Unit own command available) f a o q by sid k b n j h =
    same_joined p.sessions q.sessions sid (leaves_unit available command p (Ask.Unit own command available) f a o q h).seats j
done_joined p (Ask.Bus own) f a o q by sid k b n j h = same_joined p.sessions q.sessions sid (happens_seats p Bus f h.told q h.happens) j
done_joined p (Ask.Fault own e) f a o q by sid k b n j h = (fault_keeps p own e f a o q h).joined sid j
done_joined p (Ask.Snapshot own) f a None q by sid k b n j h = (snapshot_keeps p f a q h).joined sid j
done_joined p (Ask.Snapshot own) f a (Some x) q by sid k b n j h = absurd h
done_joined p (Ask.Start own plan) f a o q by sid k b n j h = (start_keeps p plan f a o q h).joined sid j
done_joined p Ask.Join f a o q by sid k b n j h = absurd (cc (k))
done_joined p (Ask.Attach number) f a o q by sid k b n j h = absurd (cc (k))
done_joined p (Ask.Attached own) f a None q by sid k b n j h = served_joined p (Ask.Attached own) f a q by sid k b n j h
done_joined p (Ask.Leave own) f a None q by sid k b n j h = served_joined p (Ask.Leave own) f a q by sid k b n j h
done_joined p (Ask.Size own size) f a None q by sid k b n j h = served_joined p (Ask.Size own size) f a q by sid k b n j h
done_joined p (Ask.MaxSize own) f a None q by sid k b n j h = served_joined p (Ask.MaxSize own) f a q by sid k b n j h
done_joined p (Ask.Clear own) f a None q by sid k b n j h = served_joined p (Ask.Clear own) f a q by sid k b n j h
done_joined p (Ask.Cleared own) f a None q by sid k b n j h = served_joined p (Ask.Cleared own) f a q by sid k b n j h
done_joined p (Ask.Lock own key) f a None q by sid k b n j h = served_joined p (Ask.Lock own key) f a q by sid k b n j h
done_joined p (Ask.Release own) f a None q by sid k b n j h = served_joined p (Ask.Release own) f a q by sid k b n j h
done_joined p (Ask.LockInfo own) f a None q by sid k b n j h = served_joined p (Ask.LockInfo own) f a q by sid k b n j h
done_joined p w f a o q by sid k b n j h = absurd h

admitted_joined : (now : Admission) (p : Panel) (w : SessionAsk) (f : Bool) (a : SessionAnswer) (o : Option WorkSeen) (q : Panel) (by sid : Sid)
    → asker_of w ≡ Some by → IsJoined p.sessions by → w ≢ Ask.Leave sid → IsJoined p.sessions sid → StepAdmitted now p w f a o q → IsJoined q.sessions sid
admitted_joined Dropped p w f Broken None q by sid k b n j h = panel_joined p q sid h.1 j
admitted_joined Dropped p w f a o q by sid k b n j h = absurd h
admitted_joined ShutOut p w f (Hold back) None q by sid k b n j h = panel_joined p q sid h.2 j
admitted_joined ShutOut p w f a o q by sid k b n j h = absurd h
admitted_joined Admitted p w f a o q by sid k b n j h = done_joined p w f a o q by sid k b n j h

session_joined : (by : Option Sid) (p : Panel) (w : SessionAsk) (f : Bool) (a : SessionAnswer) (o : Option WorkSeen) (q : Panel) (sid : Sid)
    → asker_of w ≡ by → w ≢ Ask.Leave sid → IsJoined p.sessions sid → StepSession by p w f a o q → IsJoined q.sessions sid
session_joined (Some by) p w f Stranger None q sid k n j h = panel_joined p q sid h.2 j
session_joined (Some by) p w f a o q sid k n j h = admitted_joined (admission p by w) p w f a o q by sid k h.0 n j h.1
session_joined None p Ask.Join f a o q sid k n j h = (join_keeps p f a o q h).joined sid j
session_joined None p (Ask.Attach number) f a o q sid k n j h = (attach_keeps p number f a o q h).joined sid j
session_joined None p w f a o q sid k n j h = absurd h

-- ---- what no session asks

returned_seats : (p : Panel) (done : FinishedSeen) (f : Bool) (told : TakenSeen) (q : Panel) → Returns p done f told q → q.sessions ≡ p.sessions
returned_seats p done f SaysIgnored q h = ap (λ (x : Panel). x.sessions) h.2
returned_seats p done f SaysWaits q h = ap (λ (x : Panel). x.sessions) h.2.1
returned_seats p done f (SaysPause ticket micros) q h = ap (λ (x : Panel). x.sessions) h.2.1
returned_seats p done f (SaysJob job) q h = ap (λ (x : Panel). x.sessions) h.2.1
returned_seats p done f SaysEnded q h = ap (λ (x : Panel). x.sessions) h.2.1
returned_seats p done f SaysFault q h = ap (λ (x : Panel). x.sessions) h.2.1

finished_seats : (p : Panel) (done : FinishedSeen) (f : Bool) (a : AnswerSeen) (q : Panel) → StepFinished p done f a q → q.sessions ≡ p.sessions
finished_seats p done f SaysBack q h = ap (λ (x : Panel). x.sessions) h.2
finished_seats p done f a q h = returned_seats p done f h.told q h.returns

-- ---- steps

acts_joined : (p : Panel) (ask : AskSeen) (f : Bool) (a : AnswerSeen) (q : Panel) (sid : Sid) → ask ≢ AskSession (Ask.Leave sid)
    → IsJoined p.sessions sid → Acts p ask f a q → IsJoined q.sessions sid
acts_joined p (AskSession w) f (SaysSession a o) q sid n j h =
    session_joined (asker_of w) p w f a o q sid refl (λ e. n (ap (λ (x : SessionAsk). AskSession x) e)) j h
acts_joined p (AskInstall slot card) f SaysInstalled q sid n j h = same_joined p.sessions q.sessions sid (ap (λ (x : Panel). x.sessions) h.4) j
acts_joined p (AskInstall slot card) f (SaysNotInstalled refusal) q sid n j h = panel_joined p q sid h.2 j
acts_joined p (AskEject slot) f (SaysEjected card) q sid n j h = same_joined p.sessions q.sessions sid (ap (λ (x : Panel). x.sessions) h.3) j
acts_joined p (AskEject slot) f (SaysNotEjected refusal) q sid n j h = panel_joined p q sid h.2 j
acts_joined p AskExternal f a q sid n j h = same_joined p.sessions q.sessions sid (happens_seats p External f h.told q h.happens) j
acts_joined p (AskElapsed ticket) f a q sid n j h = same_joined p.sessions q.sessions sid (happens_seats p (Elapsed ticket) f h.told q h.happens) j
acts_joined p (AskFinished done) f a q sid n j h = same_joined p.sessions q.sessions sid (finished_seats p done f a q h) j
acts_joined p ask f a q sid n j h = absurd h

either_joined : (b : Bool) (p : Panel) (ask : AskSeen) (f : Bool) (a : AnswerSeen) (q : Panel) (sid : Sid) → ask ≢ AskSession (Ask.Leave sid)
    → IsJoined p.sessions sid → MatchBool b (IsUnnumbered p ask f a q) (IsEvent p ask f a q) → IsJoined q.sessions sid
either_joined true p ask f a q sid n j h = panel_joined p q sid h.same j
either_joined false p ask f a q sid n j h =
    same_joined h.done.sessions q.sessions sid (ap (λ (x : Panel). x.sessions) h.after ∙ (event_ends a h.done).0)
    (acts_joined p ask f a h.done sid n j h.acts)

stays : (p q : Panel) (ask : AskSeen) (failed : Bool) (answer : AnswerSeen) (sid : Sid) → Step p ask failed answer q → IsJoined p.sessions sid
    → ask ≢ AskSession (Ask.Leave sid) → IsJoined q.sessions sid
stays p q ask failed answer sid h j n =
    either_joined ((p.events == last_number) && not (acts_unnumbered ask)) p ask failed answer q sid n j h

-- ---- a Join

-- where there is a seat for each session number, who joins has one
fresh_joined : (p : Panel) (f : Bool) (sid : Sid) (o : Option WorkSeen) (q : Panel) → length p.sessions.seats ≡ most_sessions
    → StepJoin p f (Joined sid) o q → IsJoined q.sessions sid
fresh_joined p f sid None q e h =
    let seat : Seat = fresh_seat (next_number p.events) in
    let low : 0 < sid.number = omega (arith, h.1.first) in
    let high : sid.number ≤ length p.sessions.seats = subst (λ (m : ℕ). sid.number ≤ m) (sym e) h.1.last in
    same_joined (with_seat p.sessions sid.number (Some seat)) q.sessions sid (ap (λ (x : Panel). x.sessions) h.3)
    (ap joined_in (slot_set_same p.sessions.seats sid.number (Some seat) low high) ∙ ap (λ (m : ℕ). Some m) (sym h.2))
fresh_joined p f sid (Some x) q e h = absurd h

join_joined : (b : Bool) (p : Panel) (f : Bool) (sid : Sid) (o : Option WorkSeen) (q : Panel) → length p.sessions.seats ≡ most_sessions
    → MatchBool b (IsUnnumbered p (AskSession Ask.Join) f (SaysSession (Joined sid) o) q) (IsEvent p (AskSession Ask.Join) f (SaysSession (Joined sid) o) q)
    → IsJoined q.sessions sid
join_joined true p f sid o q e h = absurd h.worn
join_joined false p f sid o q e h =
    same_joined h.done.sessions q.sessions sid (ap (λ (x : Panel). x.sessions) h.after) (fresh_joined p f sid o h.done e h.acts)

joins : (p q : Panel) (failed : Bool) (sid : Sid) (work : Option WorkSeen) → IsGoodPanel p
    → Step p (AskSession Ask.Join) failed (SaysSession (Joined sid) work) q → IsJoined q.sessions sid
joins p q failed sid work g h =
    join_joined ((p.events == last_number) && not (acts_unnumbered (AskSession Ask.Join))) p failed sid work q g.sessions.seats h

-- ---- an Attach

-- whoever lacks a second channel is joined
lacking_joined : (o : Option Seat) (j : ℕ) → lacks_second o ≡ true → j ≡ (seat_in o).joined → joined_in o ≡ Some j
lacking_joined None j h e = absurd (cc (h))
lacking_joined (Some seat) j h e = ap (λ (m : ℕ). Some m) (sym e)

second_joined : (p : Panel) (number : ℕ) (f : Bool) (sid : Sid) (o : Option WorkSeen) (q : Panel) → StepAttach p number f (Joined sid) o q
    → IsJoined p.sessions sid × IsJoined q.sessions sid × (sid.number ≡ number)
second_joined p number f sid None q h =
    let was : IsJoined p.sessions sid = ap (λ (m : ℕ). joined_in (slot_at p.sessions.seats m)) h.1.number_is
    ∙ lacking_joined (slot_at p.sessions.seats number) sid.joined h.1.lacks h.1.joined in
    (was, (attach_keeps p number f (Joined sid) None q h).joined sid was, h.1.number_is)
second_joined p number f sid (Some x) q h = absurd h

attach_joined : (b : Bool) (p : Panel) (number : ℕ) (f : Bool) (sid : Sid) (o : Option WorkSeen) (q : Panel)
    → MatchBool b (IsUnnumbered p (AskSession (Ask.Attach number)) f (SaysSession (Joined sid) o) q)
    (IsEvent p (AskSession (Ask.Attach number)) f (SaysSession (Joined sid) o) q)
    → IsJoined p.sessions sid × IsJoined q.sessions sid × (sid.number ≡ number)
attach_joined true p number f sid o q h = absurd h.worn
attach_joined false p number f sid o q h =
    let t = second_joined p number f sid o h.done h.acts in
    (t.0, same_joined h.done.sessions q.sessions sid (ap (λ (x : Panel). x.sessions) h.after) t.1, t.2)

attaches : (p q : Panel) (number : ℕ) (failed : Bool) (sid : Sid) (work : Option WorkSeen)
    → Step p (AskSession (Ask.Attach number)) failed (SaysSession (Joined sid) work) q
    → IsJoined p.sessions sid × IsJoined q.sessions sid × (sid.number ≡ number)
attaches p q number failed sid work h =
    attach_joined ((p.events == last_number) && not (acts_unnumbered (AskSession (Ask.Attach number)))) p number failed sid work q h

pub sessions-stay : SessionsStay
sessions-stay = record { stays = stays; joins = joins; attaches = attaches }
