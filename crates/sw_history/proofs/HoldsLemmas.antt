-- What is held is held on while seats, locks, clears and the scan that runs stay; and when *OPC? is.
use Rattle.std.proofs.Common.{◌≡◌, ◌==◌, ◌&&◌, ◌||◌, not, Bool, true, false, true≢false, List, [], ◌∷◌, Option, None, Some}
use Rattle.std.proofs.Common.{refl, ap, sym, subst, ◌∙◌, if◌then◌else◌}
use Rattle.std.specs.Prelude.{decimal, MatchBool}
use Rattle.sw_base.specs.declared.reading.Reading.{Reading}
use Rattle.sw_base.specs.declared.error.ScpiError.{ScpiError}
use Rattle.sw_base.specs.declared.error.ScpiError.TheVariants.{TriggerIgnored}
use Rattle.sw_lex.specs.declared.command.Command.TheVariants.{NoData}
use Rattle.sw_lex.specs.declared.command.NoData.TheVariants.{OperationCompleteQuery}
use Rattle.sw_hislip.specs.LockTable.{LockTable, admits, is_wrong, grants}
use Rattle.sw_cage.specs.TakenSeen.{TakenSeen, SaysIgnored, SaysWaits, SaysPause, SaysJob, SaysEnded, SaysFault}
use Rattle.sw_core.specs.declared.ask.Sid.{Sid}
use Rattle.sw_core.specs.declared.ask.SessionAsk.{SessionAsk}
use Rattle.sw_core.specs.declared.ask.SessionAsk.TheVariants as Ask
use Rattle.sw_core.specs.declared.ask.SessionAnswer.TheVariants.{Hold}
use Rattle.sw_core.specs.Panel.{Panel, is_running}
use Rattle.sw_core.specs.Action.{Effect, TellsText, TellsReadings, ReadsOut, SetsStatus, SetsUp, ClosesListed, OpensListed, TellsHardware, TellsSurety, TellsListing}
use Rattle.sw_core.specs.Action.{Changes}
use Rattle.sw_core.specs.Action.{Resets, Triggers, RefusesWith, IsOfMacros, Initiates, Action, AtOnce, BetweenScans, AfterScan, action_of}
use Rattle.sw_core.specs.Event.{last_number}
use Rattle.sw_core.specs.Seats.{asker_of, is_dropped, is_shut_out}
use Rattle.sw_core.specs.Sessions.{SessionsSeen, IsJoined, is_clearing}
use Rattle.sw_core.specs.Step.{StepReadings, StepAlone, session_told, StepEffect, StepHeld, StepAction, StepJoined, is_held, drops, shuts_out}
use Rattle.sw_core.specs.Step.{Admission, Dropped, ShutOut, Admitted, StepAdmitted, StepNew, StepSession, IsEvent, IsUnnumbered, acts_unnumbered}
use Rattle.sw_core.specs.Seen.{AskSession, SaysSession}
use Rattle.sw_history.specs.History.{AwaitsEnd}
use Rattle.sw_history.specs.Waking.{IsKeptWaiting}

-- ---- nothing else is answered so

told_held : (error : ScpiError) (told : TakenSeen) (w : SessionAsk) → Hold w ≡ session_told error told → ⊥
told_held error SaysIgnored w h = cc (h)
told_held error SaysWaits w h = cc (h)
told_held error (SaysPause t u) w h = cc (h)
told_held error (SaysJob job) w h = cc (h)
told_held error SaysEnded w h = cc (h)
told_held error SaysFault w h = cc (h)

readings_held : (l : List Reading) (p : Panel) (w : SessionAsk) (q : Panel) → StepReadings l p false (Hold w) q → ⊥
readings_held [] p w q h = h
readings_held (r ∷ rs) p w q h = h

alone_held : (e : Effect) (p : Panel) (w : SessionAsk) (q : Panel) → StepAlone e p false (Hold w) q → ⊥
alone_held (TellsText text) p w q h = h
alone_held (TellsReadings readings) p w q h = readings_held (readings p) p w q h
alone_held (ReadsOut text after) p w q h = h
alone_held (SetsStatus after) p w q h = h
alone_held (SetsUp Fits error after) p w q h = h
alone_held (ClosesListed chans) p w q h = h
alone_held (OpensListed chans) p w q h = h
alone_held (TellsHardware there text) p w q h = h
alone_held (TellsSurety text) p w q h = h
alone_held (TellsListing listing) p w q h = h
alone_held (Changes after) p w q h = h
alone_held Resets p w q h = h
alone_held (RefusesWith error) p w q h = h
alone_held IsOfMacros p w q h = h
alone_held Initiates p w q h = h
alone_held (Triggers happening error) p w q h = h

effect_held : (e : Effect) (p : Panel) (w : SessionAsk) (q : Panel) → StepEffect e p false (Hold w) None q → ⊥
effect_held (Triggers happening error) p w q h = told_held error h.told w h.answer_is
effect_held e p w q h = alone_held e p w q h.0

-- ---- what is held stays so

-- The sessions that are joined stay joined, and none of them is cleared that wasn't; the locks are the same, and a scan
-- that runs runs on.
pub record Keeps (p q : Panel) : Type 0 where
  pub joined : (sid : Sid) → IsJoined p.sessions sid → IsJoined q.sessions sid
  pub clear : (sid : Sid) → IsJoined p.sessions sid → is_clearing p.sessions sid.number ≡ false → is_clearing q.sessions sid.number ≡ false
  pub locks : q.sessions.locks ≡ p.sessions.locks
  pub scan : is_running p ≡ true → is_running q ≡ true

pub keeps_seats : (p q : Panel) → q.sessions ≡ p.sessions → (is_running p ≡ true → is_running q ≡ true) → Keeps p q
keeps_seats p q s r = record {
  joined = λ sid h. subst (λ (x : SessionsSeen). IsJoined x sid) (sym s) h;
  clear = λ sid h c. ap (λ (x : SessionsSeen). is_clearing x sid.number) s ∙ c;
  locks = ap (λ (x : SessionsSeen). x.locks) s;
  scan = r;
}

waiting_held : (b : Bool) (e : Effect) (p : Panel) (w : SessionAsk) → MatchBool b (StepHeld p w false (Hold w) None p) (StepEffect e p false (Hold w) None p)
    → b ≡ true
waiting_held true e p w h = refl
waiting_held false e p w h = absurd (effect_held e p w p h)

barred_held : (b : Bool) (e : Effect) (p : Panel) (w : SessionAsk) (A : Type 0) → MatchBool b (⊥ × A) (StepEffect e p false (Hold w) None p) → ⊥
barred_held true e p w A h = h.0
barred_held false e p w A h = effect_held e p w p h

held_action : (x : Action) (p q : Panel) (w : SessionAsk) → (is_running p ≡ true → is_running q ≡ true) → StepAction x p w false (Hold w) None p
    → StepAction x q w false (Hold w) None q
held_action (AtOnce e) p q w r h = absurd (effect_held e p w p h)
held_action (BetweenScans e) p q w r h = absurd (barred_held (is_running p) e p w (None ≡ None) h)
held_action (AfterScan e) p q w r h =
    subst (λ (b : Bool). MatchBool b (StepHeld q w false (Hold w) None q) (StepEffect e q false (Hold w) None q))
    (sym (r (waiting_held (is_running p) e p w h))) (refl, refl, refl)

held_joined : (p q : Panel) (w : SessionAsk) → Keeps p q → StepJoined p w false (Hold w) None p → StepJoined q w false (Hold w) None q
held_joined p q (Ask.Unit sid command available) k h =
    held_action (action_of available command) p q (Ask.Unit sid command available) k.scan h
held_joined p q (Ask.Lock sid key) k h = record {
  sessions = q.sessions;
  served = (
    (
      ap (λ (l : LockTable). is_wrong l sid.number key) k.locks ∙ h.served.0.0,
      ap (λ (l : LockTable). grants l sid.number key) k.locks ∙ h.served.0.1,
      refl,
    ),
    refl,
    refl,
  );
  unfailed = refl;
  after = refl;
}
held_joined p q (Ask.Bus sid) k h = absurd (told_held TriggerIgnored h.told (Ask.Bus sid) h.answer_is)
held_joined p q (Ask.Snapshot sid) k h = absurd h
held_joined p q (Ask.Start sid plan) k h = absurd h
held_joined p q Ask.Join k h = absurd h.served
held_joined p q (Ask.Attach number) k h = absurd h.served
held_joined p q (Ask.Attached sid) k h = absurd h.served
held_joined p q (Ask.Leave sid) k h = absurd h.served
held_joined p q (Ask.Size sid size) k h = absurd h.served
held_joined p q (Ask.MaxSize sid) k h = absurd h.served
held_joined p q (Ask.Clear sid) k h = absurd h.served
held_joined p q (Ask.Cleared sid) k h = absurd h.served
held_joined p q (Ask.Release sid) k h = absurd h.served
held_joined p q (Ask.LockInfo sid) k h = absurd h.served
held_joined p q (Ask.Fault sid e) k h = absurd h.served

-- by whether it is dropped and shut out, before and after
abbrev pub by_tests : Bool → Bool → Admission
by_tests drop shut = if drop then Dropped else if shut then ShutOut else Admitted

held_admitted : (drop shut drop' shut' : Bool) (p q : Panel) (w : SessionAsk) → Keeps p q → (drop ≡ false → drop' ≡ false) → shut' ≡ shut
    → StepAdmitted (by_tests drop shut) p w false (Hold w) None p → StepAdmitted (by_tests drop' shut') q w false (Hold w) None q
held_admitted true shut drop' shut' p q w k d s h = absurd h
held_admitted false shut true shut' p q w k d s h = absurd (true≢false (d refl))
held_admitted false true false true p q w k d s h = (refl, refl, refl)
held_admitted false true false false p q w k d s h = absurd (true≢false (sym s))
held_admitted false false false true p q w k d s h = absurd (true≢false s)
held_admitted false false false false p q w k d s h = held_joined p q w k h

drops_on : (a b c : Bool) → (a ≡ false → c ≡ false) → (a && b) ≡ false → (c && b) ≡ false
drops_on false b c i h = ap (λ (x : Bool). x && b) (i refl)
drops_on true false true i h = refl
drops_on true false false i h = refl
drops_on true true c i h = absurd (true≢false h)

new_held : (p : Panel) (w : SessionAsk) → StepNew p w false (Hold w) None p → ⊥
new_held p Ask.Join h = h
new_held p (Ask.Attach number) h = h
new_held p w h = absurd h

held_session : (o : Option Sid) (p q : Panel) (w : SessionAsk) → Keeps p q → StepSession o p w false (Hold w) None p
    → StepSession o q w false (Hold w) None q
held_session None p q w k h = absurd (new_held p w h)
held_session (Some sid) p q w k h = (
  k.joined sid h.0,
  held_admitted (drops p sid w) (shuts_out p sid w) (drops q sid w) (shuts_out q sid w) p q w k
      (drops_on (is_clearing p.sessions sid.number) (is_dropped w) (is_clearing q.sessions sid.number) (k.clear sid h.0))
      (ap (λ (l : LockTable). not (admits l sid.number) && is_shut_out w) k.locks) h.1,
)

-- the step of what is held
held_step : (b : Bool) (p : Panel) (w : SessionAsk)
    → MatchBool b (IsUnnumbered p (AskSession w) false (SaysSession (Hold w) None) p) (IsEvent p (AskSession w) false (SaysSession (Hold w) None) p)
    → StepSession (asker_of w) p w false (Hold w) None p
held_step true p w h = absurd h.worn
held_step false p w h = subst (λ (x : Panel). StepSession (asker_of w) p w false (Hold w) None x) (sym h.after) h.acts

step_held : (b : Bool) (q : Panel) (w : SessionAsk) → b ≡ false → StepSession (asker_of w) q w false (Hold w) None q
    → MatchBool b (IsUnnumbered q (AskSession w) false (SaysSession (Hold w) None) q) (IsEvent q (AskSession w) false (SaysSession (Hold w) None) q)
step_held true q w n h = absurd (true≢false n)
step_held false q w n h = record { done = q; acts = h; after = refl }

-- what is held is held on where all that holds it is kept, and numbers are left
pub held_again : (p q : Panel) → Keeps p q → (q.events == last_number) ≡ false → (w : SessionAsk) → IsKeptWaiting p w → IsKeptWaiting q w
held_again p q k n w h =
    step_held ((q.events == last_number) && not (acts_unnumbered (AskSession w))) q w
    (ap (λ (b : Bool). b && not (acts_unnumbered (AskSession w))) n)
    (held_session (asker_of w) p q w k (held_step ((p.events == last_number) && not (acts_unnumbered (AskSession w))) p w h))

-- ---- *OPC?

abbrev pub opc : Sid → SessionAsk
opc sid = Ask.Unit sid (NoData OperationCompleteQuery) false

-- a number is left, the session is joined and isn't cleared, and others' locks keep it out or a scan runs
pub record Awaits (p : Panel) (sid : Sid) : Type 0 where
  pub numbered : (p.events == last_number) ≡ false
  pub joined : IsJoined p.sessions sid
  pub kept : drops p sid (opc sid) ≡ false
  pub waits : (shuts_out p sid (opc sid) || is_running p) ≡ true

opc_run : (b : Bool) (p q : Panel) (sid : Sid) → MatchBool b (StepHeld p (opc sid) false (Hold (opc sid)) None q)
    (StepEffect (TellsText (λ x. decimal 1)) p false (Hold (opc sid)) None q) → b ≡ true
opc_run true p q sid h = refl
opc_run false p q sid h = absurd h.0

opc_admitted : (d s : Bool) (p q : Panel) (sid : Sid) → StepAdmitted (by_tests d s) p (opc sid) false (Hold (opc sid)) None q
    → (d ≡ false) × ((s || is_running p) ≡ true)
opc_admitted true s p q sid h = absurd h
opc_admitted false true p q sid h = (refl, refl)
opc_admitted false false p q sid h = (refl, opc_run (is_running p) p q sid h)

awaits_at : (b : Bool) (p : Panel) (sid : Sid) → (p.events == last_number) ≡ b
    → MatchBool (b && true) (IsUnnumbered p (AskSession (opc sid)) false (SaysSession (Hold (opc sid)) None) p)
    (IsEvent p (AskSession (opc sid)) false (SaysSession (Hold (opc sid)) None) p)
    → Awaits p sid
awaits_at true p sid e h = absurd h.worn
awaits_at false p sid e h =
    let t = opc_admitted (drops p sid (opc sid)) (shuts_out p sid (opc sid)) p h.done sid h.acts.1 in
    record { numbered = e; joined = h.acts.0; kept = t.0; waits = t.1 }

pub awaits : (p : Panel) (sid : Sid) → AwaitsEnd p sid → Awaits p sid
awaits p sid h = awaits_at (p.events == last_number) p sid refl h

-- *OPC? of a session that is admitted is held while a scan runs
pub awaits_from : (p : Panel) (sid : Sid) → (p.events == last_number) ≡ false → IsJoined p.sessions sid → drops p sid (opc sid) ≡ false
    → shuts_out p sid (opc sid) ≡ false → is_running p ≡ true → AwaitsEnd p sid
awaits_from p sid n j d s r =
    step_held ((p.events == last_number) && true) p (opc sid) (ap (λ (b : Bool). b && true) n) (
      j,
      subst (λ (b : Bool). StepAdmitted (by_tests b (shuts_out p sid (opc sid))) p (opc sid) false (Hold (opc sid)) None p) (sym d)
          (subst (λ (b : Bool). StepAdmitted (by_tests false b) p (opc sid) false (Hold (opc sid)) None p) (sym s)
          (subst (λ (b : Bool). MatchBool b (StepHeld p (opc sid) false (Hold (opc sid)) None p)
          (StepEffect (TellsText (λ x. decimal 1)) p false (Hold (opc sid)) None p)) (sym r) (refl, refl, refl))),
    )

-- who knows of *OPC? whether it waits knows whether it is held
pub awaits_known : (p : Panel) (sid : Sid) (b : Bool)
    → ((s : Sid) → asker_of (opc sid) ≡ Some s → IsJoined p.sessions s → drops p s (opc sid) ≡ false → (p.events == last_number) ≡ false
    → b ≡ (shuts_out p s (opc sid) || (is_held (opc sid) && is_running p)))
    → AwaitsEnd p sid → b ≡ true
awaits_known p sid b known h =
    let t = awaits p sid h in
    known sid refl t.joined t.kept t.numbered ∙ t.waits
