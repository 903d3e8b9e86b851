-- A step whose answer is no event's leaves the panel as it was.
use Rattle.std.proofs.Common.{◌≡◌, ◌==◌, ◌&&◌, not, ℕ, Bool, true, false, true≢false, List, [], ◌∷◌, Option, None, Some, refl, ap, sym, ◌∙◌}
use Rattle.std.specs.Prelude.{MatchBool}
use Rattle.sw_base.specs.Layout.{Channel}
use Rattle.sw_base.specs.declared.reading.Reading.{Reading}
use Rattle.sw_base.specs.declared.error.ScpiError.{ScpiError}
use Rattle.sw_base.specs.declared.error.ScpiError.TheVariants.{UndefinedHeader, DataCorruptOrStale, SettingsConflict, TriggerIgnored}
use Rattle.std.specs.Prelude.{map}
use Rattle.std.specs.List.{join_with_byte}
use Rattle.sw_base.specs.Reading.{reading_text}
use Rattle.sw_verify.specs.declared.setup.Setup.{Setup}
use Rattle.sw_status.specs.StatusModel.{StatusSeen}
use Rattle.sw_verify.specs.declared.snapshot.Snapshot.{Snapshot}
use Rattle.sw_cage.specs.Work.{FinishedSeen}
use Rattle.sw_cage.specs.TakenSeen.{TakenSeen, SaysIgnored, SaysWaits, SaysPause, SaysJob, SaysEnded, SaysFault}
use Rattle.sw_cage.specs.declared.taken.Happening.{Happening}
use Rattle.sw_cage.specs.declared.taken.Happening.TheVariants.{Bus, External, Elapsed}
use Rattle.sw_core.specs.declared.ask.Sid.{Sid}
use Rattle.sw_core.specs.declared.ask.SessionAsk.{SessionAsk}
use Rattle.sw_core.specs.declared.ask.SessionAsk.TheVariants as Ask
use Rattle.sw_core.specs.declared.ask.SessionAnswer.{SessionAnswer}
use Rattle.sw_core.specs.declared.ask.SessionAnswer.TheVariants as answers
use Rattle.sw_core.specs.declared.ask.SessionAnswer.TheVariants.{Joined, Full, Stranger, Broken, Done, Refused, Hold, Worn}
use Rattle.sw_core.specs.Panel.{Panel, is_running}
use Rattle.sw_core.specs.Action.{Effect, TellsText, TellsReadings, ReadsOut, SetsStatus, SetsUp, ClosesListed, OpensListed, TellsHardware, TellsSurety, TellsListing}
use Rattle.sw_core.specs.Action.{Changes}
use Rattle.sw_core.specs.Action.{Resets, reset, Triggers, RefusesWith, IsOfMacros, Initiates, Action, AtOnce, BetweenScans, AfterScan, action_of}
use Rattle.sw_core.specs.Event.{concluded, session_concluded, last_number}
use Rattle.sw_core.specs.Seats.{asker_of, StepSeat, StepLock}
use Rattle.sw_core.specs.Sessions.{SessionsSeen}
use Rattle.sw_core.specs.Step.{StepClose, StepOpen, StepHardware, StepSurety, StepListing, StepText, StepDone, StepSetting, StepRefused, StepReadings, StepAlone}
use Rattle.sw_core.specs.Step.{session_told, StepHappens, StepEffect, StepHeld, StepAction, StepSnapshot, StepStart, IsServed, StepJoined, StepAdmitted}
use Rattle.sw_core.specs.Step.{StepJoin, StepAttach, StepNew, StepSession, outside_told, StepOutside, StepFinished}
use Rattle.sw_core.specs.Step.{Acts, acts_unnumbered, IsUnnumbered, IsEvent, Step}
use Rattle.sw_core.specs.Step.{Admission, Dropped, ShutOut, Admitted, admission}
use Rattle.sw_core.specs.Seen.{WorkSeen, AskSeen, AskSession, AskInstall, AskEject, AskExternal, AskElapsed, AskFinished, AnswerSeen, SaysSession}
use Rattle.sw_core.specs.Seen.{SaysInstalled, SaysNotInstalled, SaysEjected, SaysNotEjected, SaysTaken, SaysMissed, SaysFailed, SaysBack, SaysWorn}
use Rattle.sw_history.specs.Shares.{is_session_event, is_event}

-- it stays as it was, but for an event
abbrev pub Stays : {A : Type 0} → Bool → A → A → Type 0
Stays true old new = Unit {0}
Stays false old new = new ≡ old

stays_same : {A : Type 0} (b : Bool) (old new : A) → new ≡ old → Stays b old new
stays_same true old new e = tt
stays_same false old new e = e

stays_then : {A : Type 0} (b : Bool) (old mid new last : A) → Stays b old mid → Stays b mid new → last ≡ new → Stays b old last
stays_then true old mid new last h k e = tt
stays_then false old mid new last h k e = e ∙ (k ∙ h)

stays_event : {A : Type 0} (b : Bool) (old new : A) → b ≡ true → Stays b old new
stays_event true old new e = tt
stays_event false old new e = absurd (true≢false (sym e))

-- ---- commands

stays_close : (p : Panel) (chans : List Channel) (f : Bool) (a : SessionAnswer) (q : Panel) → StepClose p chans f a q → Stays (is_session_event a) p q
stays_close p chans f (Done text) q h = tt
stays_close p chans f (Refused e) q h = tt
stays_close p chans f a q h = absurd h

stays_open : (p : Panel) (chans : List Channel) (f : Bool) (a : SessionAnswer) (q : Panel) → StepOpen p chans f a q → Stays (is_session_event a) p q
stays_open p chans f (Done text) q h = tt
stays_open p chans f (Refused e) q h = tt
stays_open p chans f a q h = absurd h

stays_hardware : (p : Panel) (there : Bool) (text : List ℕ) (f : Bool) (a : SessionAnswer) (q : Panel) → StepHardware p there text f a q
    → Stays (is_session_event a) p q
stays_hardware p there text f (Done t) q h = tt
stays_hardware p there text f (Refused e) q h = tt
stays_hardware p there text f a q h = absurd h

stays_surety : (p : Panel) (text : Bool → List ℕ) (f : Bool) (a : SessionAnswer) (q : Panel) → StepSurety p text f a q
    → Stays (is_session_event a) p q
stays_surety p text f (Done t) q h = tt
stays_surety p text f a q h = absurd h

stays_listing : (p : Panel) (listing : List ℕ) (f : Bool) (a : SessionAnswer) (q : Panel) → StepListing p listing f a q
    → Stays (is_session_event a) p q
stays_listing p listing f (Done t) q h = tt
stays_listing p listing f (Refused e) q h = tt
stays_listing p listing f a q h = absurd h

stays_text : (p : Panel) (text : List ℕ) (status : StatusSeen) (f : Bool) (a : SessionAnswer) (q : Panel) → StepText p text status f a q
    → Stays (is_session_event a) p q
stays_text p text status f (Done t) q h = tt
stays_text p text status f (Refused e) q h = tt
stays_text p text status f a q h = absurd h

stays_done : (p after : Panel) (f : Bool) (a : SessionAnswer) (q : Panel) → StepDone after f a q → Stays (is_session_event a) p q
stays_done p after f (Done text) q h = tt
stays_done p after f a q h = absurd h

stays_setting : (p : Panel) (Fits : Type 0) (error : ScpiError) (setup : Setup) (f : Bool) (a : SessionAnswer) (q : Panel)
    → StepSetting p Fits error setup f a q → Stays (is_session_event a) p q
stays_setting p Fits error setup f (Done text) q h = tt
stays_setting p Fits error setup f (Refused e) q h = tt
stays_setting p Fits error setup f a q h = absurd h

stays_refused : (p : Panel) (error : ScpiError) (f : Bool) (a : SessionAnswer) (q : Panel) → StepRefused p error f a q → Stays (is_session_event a) p q
stays_refused p error f (Refused e) q h = tt
stays_refused p error f a q h = absurd h

stays_readings : (l : List Reading) (p : Panel) (f : Bool) (a : SessionAnswer) (q : Panel) → StepReadings l p f a q → Stays (is_session_event a) p q
stays_readings [] p f a q h = stays_refused p DataCorruptOrStale f a q h
stays_readings (r ∷ rs) p f a q h = stays_text p (join_with_byte 44 (map reading_text (r ∷ rs))) p.status f a q h

stays_alone : (d : Effect) (p : Panel) (f : Bool) (a : SessionAnswer) (q : Panel) → StepAlone d p f a q → Stays (is_session_event a) p q
stays_alone (TellsText text) p f a q h = stays_text p (text p) p.status f a q h
stays_alone (TellsReadings readings) p f a q h = stays_readings (readings p) p f a q h
stays_alone (ReadsOut text after) p f a q h = stays_text p (text p.status) (after p.status) f a q h
stays_alone (SetsStatus after) p f a q h = stays_done p (record p { status = after p.status }) f a q h
stays_alone (SetsUp Fits error after) p f a q h = stays_setting p (Fits p.settings) error (after p.settings) f a q h
stays_alone (ClosesListed chans) p f a q h = stays_close p chans f a q h
stays_alone (OpensListed chans) p f a q h = stays_open p chans f a q h
stays_alone (TellsHardware there text) p f a q h = stays_hardware p (there p) (text p) f a q h
stays_alone (TellsSurety text) p f a q h = stays_surety p (text p) f a q h
stays_alone (TellsListing listing) p f a q h = stays_listing p listing f a q h
stays_alone (Changes after) p f a q h = stays_done p (after p) f a q h
stays_alone Resets p f a q h = stays_done p (reset p) f a q h
stays_alone (RefusesWith error) p f a q h = stays_refused p error f a q h
stays_alone IsOfMacros p f a q h = stays_refused p UndefinedHeader f a q h
stays_alone Initiates p f a q h = stays_refused p UndefinedHeader f a q h
stays_alone (Triggers happening error) p f a q h = absurd h

told_event : (error : ScpiError) (told : TakenSeen) → is_session_event (session_told error told) ≡ true
told_event error SaysIgnored = refl
told_event error SaysWaits = refl
told_event error (SaysPause t u) = refl
told_event error (SaysJob job) = refl
told_event error SaysEnded = refl
told_event error SaysFault = refl

stays_happens : (p : Panel) (happening : Happening) (error : ScpiError) (f : Bool) (a : SessionAnswer) (w : Option WorkSeen) (q : Panel)
    → StepHappens p happening error f a w q → Stays (is_session_event a) p q
stays_happens p happening error f a w q h = stays_event (is_session_event a) p q (ap is_session_event h.answer_is ∙ told_event error h.told)

stays_effect : (d : Effect) (p : Panel) (f : Bool) (a : SessionAnswer) (w : Option WorkSeen) (q : Panel) → StepEffect d p f a w q
    → Stays (is_session_event a) p q
stays_effect (Triggers happening error) p f a w q h = stays_happens p happening error f a w q h
stays_effect d p f a w q h = stays_alone d p f a q h.0

stays_held : (p : Panel) (ask : SessionAsk) (f : Bool) (a : SessionAnswer) (w : Option WorkSeen) (q : Panel) → StepHeld p ask f a w q
    → Stays (is_session_event a) p q
stays_held p ask f (Hold back) None q h = h.2
stays_held p ask f a w q h = absurd h

stays_barred : (b : Bool) (d : Effect) (p : Panel) (f : Bool) (a : SessionAnswer) (w : Option WorkSeen) (q : Panel)
    → MatchBool b (StepRefused p SettingsConflict f a q × (w ≡ None)) (StepEffect d p f a w q) → Stays (is_session_event a) p q
stays_barred true d p f a w q h = stays_refused p SettingsConflict f a q h.0
stays_barred false d p f a w q h = stays_effect d p f a w q h

stays_waiting : (b : Bool) (d : Effect) (p : Panel) (ask : SessionAsk) (f : Bool) (a : SessionAnswer) (w : Option WorkSeen) (q : Panel)
    → MatchBool b (StepHeld p ask f a w q) (StepEffect d p f a w q) → Stays (is_session_event a) p q
stays_waiting true d p ask f a w q h = stays_held p ask f a w q h
stays_waiting false d p ask f a w q h = stays_effect d p f a w q h

stays_action : (x : Action) (p : Panel) (ask : SessionAsk) (f : Bool) (a : SessionAnswer) (w : Option WorkSeen) (q : Panel)
    → StepAction x p ask f a w q → Stays (is_session_event a) p q
stays_action (AtOnce d) p ask f a w q h = stays_effect d p f a w q h
stays_action (BetweenScans d) p ask f a w q h = stays_barred (is_running p) d p f a w q h
stays_action (AfterScan d) p ask f a w q h = stays_waiting (is_running p) d p ask f a w q h

-- ---- sessions

stays_snapshot : (p : Panel) (f : Bool) (a : SessionAnswer) (q : Panel) → StepSnapshot p f a q → Stays (is_session_event a) p q
stays_snapshot p f (answers.Snapshot s number) q h = tt
stays_snapshot p f (Refused e) q h = tt
stays_snapshot p f a q h = absurd h

stays_start : (p : Panel) (plan : Snapshot) (f : Bool) (a : SessionAnswer) (w : Option WorkSeen) (q : Panel) → StepStart p plan f a w q
    → Stays (is_session_event a) p q
stays_start p plan f (Done text) w q h = tt
stays_start p plan f (Refused e) w q h = tt
stays_start p plan f a w q h = absurd h

stays_lock : (s : SessionsSeen) (sid : Sid) (key : List ℕ) (a : SessionAnswer) (t : SessionsSeen) → StepLock s sid key a t
    → Stays (is_session_event a) s t
stays_lock s sid key (answers.Lock code) t h = tt
stays_lock s sid key (Hold back) t h = h.2
stays_lock s sid key a t h = absurd h

stays_seat : (s : SessionsSeen) (ask : SessionAsk) (a : SessionAnswer) (t : SessionsSeen) → StepSeat s ask a t → Stays (is_session_event a) s t
stays_seat s (Ask.Leave sid) (Done text) t h = tt
stays_seat s (Ask.Attached sid) (Done text) t h = tt
stays_seat s (Ask.Attached sid) answers.Missed t h = tt
stays_seat s (Ask.Size sid n) (Done text) t h = tt
stays_seat s (Ask.MaxSize sid) (answers.Max n) t h = tt
stays_seat s (Ask.Clear sid) (Done text) t h = tt
stays_seat s (Ask.Cleared sid) (Done text) t h = tt
stays_seat s (Ask.Lock sid key) a t h = stays_lock s sid key a t h
stays_seat s (Ask.Release sid) (answers.Lock code) t h = tt
stays_seat s (Ask.LockInfo sid) (answers.Info exclusive n) t h = tt
stays_seat s ask a t h = absurd h

with_sessions : (b : Bool) (p q : Panel) (s : SessionsSeen) → Stays b p.sessions s → q ≡ record p { sessions = s } → Stays b p q
with_sessions true p q s h e = tt
with_sessions false p q s h e = e ∙ ap (λ (x : SessionsSeen). record p { sessions = x }) h

stays_served : (p : Panel) (ask : SessionAsk) (f : Bool) (a : SessionAnswer) (q : Panel) → IsServed p ask f a q → Stays (is_session_event a) p q
stays_served p ask f a q h = with_sessions (is_session_event a) p q h.sessions (stays_seat p.sessions ask a h.sessions h.served) h.after

stays_joined : (p : Panel) (ask : SessionAsk) (f : Bool) (a : SessionAnswer) (w : Option WorkSeen) (q : Panel) → StepJoined p ask f a w q
    → Stays (is_session_event a) p q
stays_joined p (Ask.Fault sid e) f (Done None) None q h = tt
stays_joined p (Ask.Fault sid e) f a None q h = stays_served p (Ask.Fault sid e) f a q h
stays_joined p (Ask.Unit sid command available) f a w q h =
    stays_action (action_of available command) p (Ask.Unit sid command available) f a w q h
stays_joined p (Ask.Bus sid) f a w q h = stays_happens p Bus TriggerIgnored f a w q h
stays_joined p (Ask.Snapshot sid) f a None q h = stays_snapshot p f a q h
stays_joined p (Ask.Start sid plan) f a w q h = stays_start p plan f a w q h
stays_joined p (Ask.Attached sid) f a None q h = stays_served p (Ask.Attached sid) f a q h
stays_joined p (Ask.Leave sid) f a None q h = stays_served p (Ask.Leave sid) f a q h
stays_joined p (Ask.Size sid size) f a None q h = stays_served p (Ask.Size sid size) f a q h
stays_joined p (Ask.MaxSize sid) f a None q h = stays_served p (Ask.MaxSize sid) f a q h
stays_joined p (Ask.Clear sid) f a None q h = stays_served p (Ask.Clear sid) f a q h
stays_joined p (Ask.Cleared sid) f a None q h = stays_served p (Ask.Cleared sid) f a q h
stays_joined p (Ask.Lock sid key) f a None q h = stays_served p (Ask.Lock sid key) f a q h
stays_joined p (Ask.Release sid) f a None q h = stays_served p (Ask.Release sid) f a q h
stays_joined p (Ask.LockInfo sid) f a None q h = stays_served p (Ask.LockInfo sid) f a q h
stays_joined p Ask.Join f a None q h = stays_served p Ask.Join f a q h
stays_joined p (Ask.Attach number) f a None q h = stays_served p (Ask.Attach number) f a q h
stays_joined p ask f a w q h = absurd h

stays_admitted : (now : Admission) (p : Panel) (ask : SessionAsk) (f : Bool) (a : SessionAnswer) (w : Option WorkSeen) (q : Panel)
    → StepAdmitted now p ask f a w q → Stays (is_session_event a) p q
stays_admitted Dropped p ask f Broken None q h = h.1
stays_admitted Dropped p ask f a w q h = absurd h
stays_admitted ShutOut p ask f a w q h = stays_held p ask f a w q h
stays_admitted Admitted p ask f a w q h = stays_joined p ask f a w q h

stays_join : (p : Panel) (f : Bool) (a : SessionAnswer) (w : Option WorkSeen) (q : Panel) → StepJoin p f a w q → Stays (is_session_event a) p q
stays_join p f (Joined sid) w q h = tt
stays_join p f Full w q h = tt
stays_join p f a w q h = absurd h

stays_attach : (p : Panel) (number : ℕ) (f : Bool) (a : SessionAnswer) (w : Option WorkSeen) (q : Panel) → StepAttach p number f a w q
    → Stays (is_session_event a) p q
stays_attach p number f (Joined sid) w q h = tt
stays_attach p number f Stranger None q h = h.2
stays_attach p number f a w q h = absurd h

stays_new : (p : Panel) (ask : SessionAsk) (f : Bool) (a : SessionAnswer) (w : Option WorkSeen) (q : Panel) → StepNew p ask f a w q
    → Stays (is_session_event a) p q
stays_new p Ask.Join f a w q h = stays_join p f a w q h
stays_new p (Ask.Attach number) f a w q h = stays_attach p number f a w q h
stays_new p ask f a w q h = absurd h

stays_session : (o : Option Sid) (p : Panel) (ask : SessionAsk) (f : Bool) (a : SessionAnswer) (w : Option WorkSeen) (q : Panel)
    → StepSession o p ask f a w q → Stays (is_session_event a) p q
stays_session None p ask f a w q h = stays_new p ask f a w q h
stays_session (Some sid) p ask f Stranger None q h = h.2
stays_session (Some sid) p ask f a w q h = stays_admitted (admission p sid ask) p ask f a w q h.1

-- ---- asks

outside_event : (told : TakenSeen) → is_event (outside_told told) ≡ true
outside_event SaysIgnored = refl
outside_event SaysWaits = refl
outside_event (SaysPause t u) = refl
outside_event (SaysJob job) = refl
outside_event SaysEnded = refl
outside_event SaysFault = refl

stays_outside : (p : Panel) (happening : Happening) (f : Bool) (a : AnswerSeen) (q : Panel) → StepOutside p happening f a q → Stays (is_event a) p q
stays_outside p happening f a q h = stays_event (is_event a) p q (ap is_event h.answer_is ∙ outside_event h.told)

stays_finished : (p : Panel) (done : FinishedSeen) (f : Bool) (a : AnswerSeen) (q : Panel) → StepFinished p done f a q → Stays (is_event a) p q
stays_finished p done f SaysBack q h = h.2
stays_finished p done f a q h = stays_event (is_event a) p q (ap is_event h.answer_is ∙ outside_event h.told)

stays_acts : (p : Panel) (ask : AskSeen) (f : Bool) (a : AnswerSeen) (q : Panel) → Acts p ask f a q → Stays (is_event a) p q
stays_acts p (AskSession ask) f (SaysSession a w) q h = stays_session (asker_of ask) p ask f a w q h
stays_acts p (AskInstall slot card) f SaysInstalled q h = tt
stays_acts p (AskInstall slot card) f (SaysNotInstalled refusal) q h = tt
stays_acts p (AskEject slot) f (SaysEjected card) q h = tt
stays_acts p (AskEject slot) f (SaysNotEjected refusal) q h = tt
stays_acts p AskExternal f a q h = stays_outside p External f a q h
stays_acts p (AskElapsed ticket) f a q h = stays_outside p (Elapsed ticket) f a q h
stays_acts p (AskFinished done) f a q h = stays_finished p done f a q h
stays_acts p ask f a q h = absurd h

-- ---- events

session_ends : (a : SessionAnswer) (p : Panel) → Stays (is_session_event a) p (session_concluded a p)
session_ends Stranger p = refl
session_ends Broken p = refl
session_ends (Hold ask) p = refl
session_ends (Worn ask) p = refl
session_ends (Refused e) p = tt
session_ends (Joined sid) p = tt
session_ends Full p = tt
session_ends (Done text) p = tt
session_ends (answers.Snapshot s number) p = tt
session_ends answers.Missed p = tt
session_ends (answers.Max n) p = tt
session_ends (answers.Lock code) p = tt
session_ends (answers.Info exclusive n) p = tt

stays_ends : (a : AnswerSeen) (p : Panel) → Stays (is_event a) p (concluded a p)
stays_ends (SaysSession a w) p = session_ends a p
stays_ends SaysInstalled p = tt
stays_ends (SaysNotInstalled refusal) p = tt
stays_ends (SaysEjected card) p = tt
stays_ends (SaysNotEjected refusal) p = tt
stays_ends (SaysTaken work) p = tt
stays_ends SaysMissed p = tt
stays_ends SaysFailed p = tt
stays_ends SaysBack p = refl
stays_ends SaysWorn p = refl

either_stays : (b : Bool) (p : Panel) (ask : AskSeen) (f : Bool) (a : AnswerSeen) (q : Panel)
    → MatchBool b (IsUnnumbered p ask f a q) (IsEvent p ask f a q) → Stays (is_event a) p q
either_stays true p ask f a q h = stays_same (is_event a) p q h.same
either_stays false p ask f a q h =
    stays_then (is_event a) p h.done (concluded a h.done) q (stays_acts p ask f a h.done h.acts) (stays_ends a h.done) h.after

stays_known : {A : Type 0} (b : Bool) (old new : A) → b ≡ false → Stays b old new → new ≡ old
stays_known true old new e h = absurd (true≢false e)
stays_known false old new e h = h

-- what is no event changes nothing
pub step_unmoved : (p : Panel) (ask : AskSeen) (f : Bool) (a : AnswerSeen) (q : Panel) → Step p ask f a q → is_event a ≡ false → q ≡ p
step_unmoved p ask f a q h e =
    stays_known (is_event a) p q e (either_stays ((p.events == last_number) && not (acts_unnumbered ask)) p ask f a q h)
