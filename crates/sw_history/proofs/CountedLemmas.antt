-- A step's number of events: one more for an event that is numbered.
use Rattle.std.proofs.Common.{◌≡◌, ℕ, ◌+◌, ◌≤◌, ◌==◌, ◌&&◌, not, Bool, true, false, List, [], ◌∷◌, Option, None, Some}
use Rattle.std.proofs.Common.{refl, ap, sym, subst, ◌∙◌, map, arith}
use Rattle.std.specs.Prelude.{MatchBool}
use Rattle.std.specs.List.{join_with_byte}
use Rattle.std.proofs.lemmas.Bool.Decides.{nat_tests}
use Rattle.sw_base.specs.Reading.{reading_text}
use Rattle.sw_base.specs.Layout.{Channel}
use Rattle.sw_base.specs.declared.reading.Reading.{Reading}
use Rattle.sw_base.specs.declared.error.ScpiError.{ScpiError}
use Rattle.sw_base.specs.declared.error.ScpiError.TheVariants.{UndefinedHeader, DataCorruptOrStale, OutOfMemory, HardwareMissing}
use Rattle.sw_base.specs.declared.error.ScpiError.TheVariants.{SettingsConflict, HardwareError}
use Rattle.sw_lex.specs.declared.command.Command.{Command}
use Rattle.sw_base.specs.declared.terms.StatusGroup.{StatusGroup}
use Rattle.sw_lex.specs.declared.command.GroupQuery.{GroupQuery}
use Rattle.sw_lex.specs.declared.command.SlotQuery.{SlotQuery}
use Rattle.sw_lex.specs.declared.command.NoData.{NoData}
use Rattle.sw_lex.specs.declared.command.RelayCommand.{RelayCommand}
use Rattle.sw_verify.specs.declared.setup.Setup.{Setup}
use Rattle.sw_status.specs.StatusModel.{StatusSeen}
use Rattle.sw_verify.specs.declared.snapshot.Snapshot.{Snapshot}
use Rattle.sw_cage.specs.Work.{FinishedSeen}
use Rattle.sw_cage.specs.TakenSeen.{TakenSeen, SaysIgnored, SaysWaits, SaysPause, SaysJob, SaysEnded, SaysFault}
use Rattle.sw_cage.specs.declared.taken.Happening.{Happening}
use Rattle.sw_cage.specs.declared.taken.Happening.TheVariants.{Bus, External, Elapsed}
use Rattle.sw_core.specs.declared.ask.Sid.{Sid}
use Rattle.sw_core.specs.declared.ask.SessionAsk.{SessionAsk}
use Rattle.sw_core.specs.declared.ask.SessionAsk.TheVariants as Ask
use Rattle.sw_core.specs.declared.ask.SessionAnswer.{SessionAnswer}
use Rattle.sw_core.specs.declared.ask.SessionAnswer.TheVariants as answers
use Rattle.sw_core.specs.declared.ask.SessionAnswer.TheVariants.{Joined, Full, Stranger, Broken, Done, Refused, Hold, Worn}
use Rattle.sw_core.specs.Panel.{Panel, is_running}
use Rattle.sw_core.specs.Action.{Effect, TellsText, TellsReadings, ReadsOut, SetsStatus, SetsUp, ClosesListed, OpensListed, TellsHardware, TellsSurety, TellsListing}
use Rattle.sw_core.specs.Action.{Changes}
use Rattle.sw_core.specs.Action.{Resets, reset, Triggers, RefusesWith, IsOfMacros, Initiates, Action, AtOnce, BetweenScans, AfterScan, action_of}
use Rattle.sw_core.specs.Event.{concluded, session_concluded, last_number, next_number}
use Rattle.sw_core.specs.Seats.{asker_of}
use Rattle.sw_core.specs.Step.{StepClose, StepOpen, StepHardware, StepSurety, StepListing, StepText, StepDone, StepSetting, StepRefused, StepReadings, StepAlone}
use Rattle.sw_core.specs.Step.{Happens, StepEffect, StepHeld, StepAction, StepSnapshot, StepStart, IsServed, StepJoined, StepAdmitted}
use Rattle.sw_core.specs.Step.{StepJoin, StepAttach, StepNew, StepSession, Returns, StepFinished, Acts, acts_unnumbered, IsWorn, IsEvent, IsUnnumbered, Step}
use Rattle.sw_core.specs.Step.{Admission, Dropped, ShutOut, Admitted, admission}
use Rattle.sw_core.specs.Seen.{WorkSeen, AskSeen, AskSession, AskInstall, AskEject, AskExternal, AskElapsed, AskFinished, AnswerSeen, SaysSession}
use Rattle.sw_core.specs.Seen.{SaysInstalled, SaysNotInstalled, SaysEjected, SaysNotEjected, SaysTaken, SaysMissed, SaysFailed, SaysBack, SaysWorn}
use Rattle.sw_history.specs.Shares.{is_counted, one_if}

-- ---- commands

-- no event was counted
abbrev pub IsSame : Panel → Panel → Type 0
IsSame p q = q.events ≡ p.events

same_as : (p q r : Panel) → q ≡ r → IsSame p r → IsSame p q
same_as p q r e s = ap (λ (x : Panel). x.events) e ∙ s

abbrev pub IsSameEffect : Panel → Effect → Type 0
IsSameEffect p (Changes after) = IsSame p (after p)
IsSameEffect p effect = Unit {0}

abbrev pub IsSameAction : Panel → Action → Type 0
IsSameAction p (AtOnce effect) = IsSameEffect p effect
IsSameAction p (BetweenScans effect) = IsSameEffect p effect
IsSameAction p (AfterScan effect) = IsSameEffect p effect

same_command : (p : Panel) (available : Bool) (command : Command) → IsSameAction p (action_of available command)
same_command p available (Command.NoData NoData.Reset) = tt
same_command p available (Command.NoData NoData.ClearStatus) = refl
same_command p available (Command.NoData NoData.OperationComplete) = refl
same_command p available (Command.NoData NoData.OperationCompleteQuery) = tt
same_command p available (Command.NoData NoData.Wait) = refl
same_command p available (Command.NoData NoData.Trigger) = tt
same_command p available (Command.NoData NoData.Abort) = refl
same_command p available (Command.NoData NoData.Initiate) = tt
same_command p available (Command.NoData NoData.OpenAll) = refl
same_command p available (Command.NoData NoData.Preset) = tt
same_command p available (Command.NoData NoData.Fetch) = tt
same_command p available (Command.NoData NoData.Read) = tt
same_command p available (Command.Query query) = tt
same_command p available (Command.LayerQuery query layer) = tt
same_command p available (Command.GroupQuery GroupQuery.Condition StatusGroup.Operation) = tt
same_command p available (Command.GroupQuery GroupQuery.Condition StatusGroup.Questionable) = tt
same_command p available (Command.GroupQuery GroupQuery.Enable group) = tt
same_command p available (Command.GroupQuery GroupQuery.PositiveTransition group) = tt
same_command p available (Command.GroupQuery GroupQuery.NegativeTransition group) = tt
same_command p available (Command.SlotQuery SlotQuery.Kind slot) = tt
same_command p available (Command.SlotQuery SlotQuery.Groups slot) = tt
same_command p available (Command.SlotQuery SlotQuery.State slot) = tt
same_command p available (Command.DestructiveQuery read) = tt
same_command p available (Command.Signal layer) = tt
same_command p available (Command.Continuous true) = tt
same_command p available (Command.Continuous false) = refl
same_command p available (Command.Relays RelayCommand.Close chans) = tt
same_command p available (Command.Relays RelayCommand.CloseQuery chans) = tt
same_command p available (Command.Relays RelayCommand.CloseCheck chans) = tt
same_command p available (Command.Relays RelayCommand.Open chans) = tt
same_command p available (Command.Relays RelayCommand.OpenQuery chans) = tt
same_command p available (Command.ListingCheck listing) = tt
same_command p available (Command.Set setting) = tt
same_command p available (Command.SetStatus setting) = tt
same_command p available (Command.Macros ask) = tt
same_command p available (Command.Macro ask) = tt
same_command p available (Command.ScanReadings number count) = tt

same_close : (p : Panel) (chans : List Channel) (f : Bool) (a : SessionAnswer) (q : Panel) → StepClose p chans f a q → IsSame p q
same_close p chans f (Done None) q h = ap (λ (x : Panel). x.events) h.3
same_close p chans f (Refused HardwareMissing) q h = ap (λ (x : Panel). x.events) h.2
same_close p chans f (Refused SettingsConflict) q h = ap (λ (x : Panel). x.events) h.2
same_close p chans f (Refused HardwareError) q h = ap (λ (x : Panel). x.events) h.2.1
same_close p chans f a q h = absurd h

same_open : (p : Panel) (chans : List Channel) (f : Bool) (a : SessionAnswer) (q : Panel) → StepOpen p chans f a q → IsSame p q
same_open p chans f (Done None) q h = ap (λ (x : Panel). x.events) h.3
same_open p chans f (Refused HardwareMissing) q h = ap (λ (x : Panel). x.events) h.2
same_open p chans f (Refused HardwareError) q h = ap (λ (x : Panel). x.events) h.2.1
same_open p chans f a q h = absurd h

same_hardware : (p : Panel) (there : Bool) (text : List ℕ) (f : Bool) (a : SessionAnswer) (q : Panel) → StepHardware p there text f a q → IsSame p q
same_hardware p there text f (Done (Some t)) q h = ap (λ (x : Panel). x.events) h.3
same_hardware p there text f (Refused HardwareMissing) q h = ap (λ (x : Panel). x.events) h.2
same_hardware p there text f (Refused OutOfMemory) q h = ap (λ (x : Panel). x.events) h.2
same_hardware p there text f a q h = absurd h

same_surety : (p : Panel) (text : Bool → List ℕ) (f : Bool) (a : SessionAnswer) (q : Panel) → StepSurety p text f a q → IsSame p q
same_surety p text f (Done (Some t)) q h = ap (λ (x : Panel). x.events) h.2
same_surety p text f a q h = absurd h

same_listing : (p : Panel) (listing : List ℕ) (f : Bool) (a : SessionAnswer) (q : Panel) → StepListing p listing f a q → IsSame p q
same_listing p listing f (Done (Some t)) q h = ap (λ (x : Panel). x.events) h.2
same_listing p listing f (Refused OutOfMemory) q h = ap (λ (x : Panel). x.events) h.1
same_listing p listing f a q h = absurd h

same_text : (p : Panel) (text : List ℕ) (status : StatusSeen) (f : Bool) (a : SessionAnswer) (q : Panel) → StepText p text status f a q → IsSame p q
same_text p text status f (Done (Some t)) q h = ap (λ (x : Panel). x.events) h.2
same_text p text status f (Refused OutOfMemory) q h = ap (λ (x : Panel). x.events) h.1
same_text p text status f a q h = absurd h

same_done : (p after : Panel) (f : Bool) (a : SessionAnswer) (q : Panel) → IsSame p after → StepDone after f a q → IsSame p q
same_done p after f (Done None) q s h = same_as p q after h.1 s
same_done p after f a q s h = absurd h

same_setting : (p : Panel) (Fits : Type 0) (error : ScpiError) (setup : Setup) (f : Bool) (a : SessionAnswer) (q : Panel)
    → StepSetting p Fits error setup f a q → IsSame p q
same_setting p Fits error setup f (Done None) q h = ap (λ (x : Panel). x.events) h.2
same_setting p Fits error setup f (Refused e) q h = ap (λ (x : Panel). x.events) h.3
same_setting p Fits error setup f a q h = absurd h

same_refused : (p : Panel) (error : ScpiError) (f : Bool) (a : SessionAnswer) (q : Panel) → StepRefused p error f a q → IsSame p q
same_refused p error f (Refused e) q h = ap (λ (x : Panel). x.events) h.2
same_refused p error f a q h = absurd h

same_readings : (l : List Reading) (p : Panel) (f : Bool) (a : SessionAnswer) (q : Panel) → StepReadings l p f a q → IsSame p q
same_readings [] p f a q h = same_refused p DataCorruptOrStale f a q h
same_readings (r ∷ rs) p f a q h = same_text p (join_with_byte 44 (map reading_text (r ∷ rs))) p.status f a q h

same_alone : (d : Effect) (p : Panel) (f : Bool) (a : SessionAnswer) (q : Panel) → IsSameEffect p d → StepAlone d p f a q → IsSame p q
same_alone (TellsText text) p f a q n h = same_text p (text p) p.status f a q h
same_alone (TellsReadings readings) p f a q n h = same_readings (readings p) p f a q h
same_alone (ReadsOut text after) p f a q n h = same_text p (text p.status) (after p.status) f a q h
same_alone (SetsStatus after) p f a q n h = same_done p (record p { status = after p.status }) f a q refl h
same_alone (SetsUp Fits error after) p f a q n h = same_setting p (Fits p.settings) error (after p.settings) f a q h
same_alone (ClosesListed chans) p f a q n h = same_close p chans f a q h
same_alone (OpensListed chans) p f a q n h = same_open p chans f a q h
same_alone (TellsHardware there text) p f a q n h = same_hardware p (there p) (text p) f a q h
same_alone (TellsSurety text) p f a q n h = same_surety p (text p) f a q h
same_alone (TellsListing listing) p f a q n h = same_listing p listing f a q h
same_alone (Changes after) p f a q n h = same_done p (after p) f a q n h
same_alone Resets p f a q n h = same_done p (reset p) f a q refl h
same_alone (RefusesWith error) p f a q n h = same_refused p error f a q h
same_alone IsOfMacros p f a q n h = same_refused p UndefinedHeader f a q h
same_alone Initiates p f a q n h = same_refused p UndefinedHeader f a q h
same_alone (Triggers happening error) p f a q n h = absurd h

same_happens : (p : Panel) (happening : Happening) (f : Bool) (told : TakenSeen) (q : Panel) → Happens p happening f told q → IsSame p q
same_happens p happening f SaysIgnored q h = ap (λ (x : Panel). x.events) h.2
same_happens p happening f SaysWaits q h = ap (λ (x : Panel). x.events) h.2.1
same_happens p happening f (SaysPause t u) q h = ap (λ (x : Panel). x.events) h.2.1
same_happens p happening f (SaysJob job) q h = ap (λ (x : Panel). x.events) h.2.1
same_happens p happening f SaysEnded q h = ap (λ (x : Panel). x.events) h.2.1
same_happens p happening f SaysFault q h = ap (λ (x : Panel). x.events) h.2.1

same_effect : (d : Effect) (p : Panel) (f : Bool) (a : SessionAnswer) (w : Option WorkSeen) (q : Panel) → IsSameEffect p d → StepEffect d p f a w q
    → IsSame p q
same_effect (Triggers happening error) p f a w q n h = same_happens p happening f h.told q h.happens
same_effect d p f a w q n h = same_alone d p f a q n h.0

same_held : (p : Panel) (ask : SessionAsk) (f : Bool) (a : SessionAnswer) (w : Option WorkSeen) (q : Panel) → StepHeld p ask f a w q → IsSame p q
same_held p ask f (Hold back) None q h = ap (λ (x : Panel). x.events) h.2
same_held p ask f a w q h = absurd h

same_barred : (b : Bool) (d : Effect) (p : Panel) (f : Bool) (a : SessionAnswer) (w : Option WorkSeen) (q : Panel) → IsSameEffect p d
    → MatchBool b (StepRefused p SettingsConflict f a q × (w ≡ None)) (StepEffect d p f a w q) → IsSame p q
same_barred true d p f a w q n h = same_refused p SettingsConflict f a q h.0
same_barred false d p f a w q n h = same_effect d p f a w q n h

same_waiting : (b : Bool) (d : Effect) (p : Panel) (ask : SessionAsk) (f : Bool) (a : SessionAnswer) (w : Option WorkSeen) (q : Panel) → IsSameEffect p d
    → MatchBool b (StepHeld p ask f a w q) (StepEffect d p f a w q) → IsSame p q
same_waiting true d p ask f a w q n h = same_held p ask f a w q h
same_waiting false d p ask f a w q n h = same_effect d p f a w q n h

same_action : (x : Action) (p : Panel) (ask : SessionAsk) (f : Bool) (a : SessionAnswer) (w : Option WorkSeen) (q : Panel) → IsSameAction p x
    → StepAction x p ask f a w q → IsSame p q
same_action (AtOnce d) p ask f a w q n h = same_effect d p f a w q n h
same_action (BetweenScans d) p ask f a w q n h = same_barred (is_running p) d p f a w q n h
same_action (AfterScan d) p ask f a w q n h = same_waiting (is_running p) d p ask f a w q n h

-- ---- sessions

same_snapshot : (p : Panel) (f : Bool) (a : SessionAnswer) (q : Panel) → StepSnapshot p f a q → IsSame p q
same_snapshot p f (answers.Snapshot s number) q h = ap (λ (x : Panel). x.events) h.3
same_snapshot p f (Refused OutOfMemory) q h = ap (λ (x : Panel). x.events) h.2
same_snapshot p f (Refused e) q h = ap (λ (x : Panel). x.events) h.2
same_snapshot p f a q h = absurd h

same_start : (p : Panel) (plan : Snapshot) (f : Bool) (a : SessionAnswer) (w : Option WorkSeen) (q : Panel) → StepStart p plan f a w q → IsSame p q
same_start p plan f (Done None) w q h = ap (λ (x : Panel). x.events) h.starts.4
same_start p plan f (Refused HardwareError) w q h = ap (λ (x : Panel). x.events) h.starts.4
same_start p plan f (Refused OutOfMemory) None q h = ap (λ (x : Panel). x.events) h.3
same_start p plan f (Refused SettingsConflict) None q h = ap (λ (x : Panel). x.events) h.2
same_start p plan f (Refused e) None q h = ap (λ (x : Panel). x.events) h.2
same_start p plan f a w q h = absurd h

same_served : (p : Panel) (ask : SessionAsk) (f : Bool) (a : SessionAnswer) (q : Panel) → IsServed p ask f a q → IsSame p q
same_served p ask f a q h = ap (λ (x : Panel). x.events) h.after

same_joined : (p : Panel) (ask : SessionAsk) (f : Bool) (a : SessionAnswer) (w : Option WorkSeen) (q : Panel) → StepJoined p ask f a w q → IsSame p q
same_joined p (Ask.Fault sid e) f (Done None) None q h = ap (λ (x : Panel). x.events) h.1
same_joined p (Ask.Fault sid e) f a None q h = same_served p (Ask.Fault sid e) f a q h
same_joined p (Ask.Unit sid command available) f a w q h =
    same_action (action_of available command) p (Ask.Unit sid command available) f a w q (same_command p available command) h
same_joined p (Ask.Bus sid) f a w q h = same_happens p Bus f h.told q h.happens
same_joined p (Ask.Snapshot sid) f a None q h = same_snapshot p f a q h
same_joined p (Ask.Start sid plan) f a w q h = same_start p plan f a w q h
same_joined p (Ask.Attached sid) f a None q h = same_served p (Ask.Attached sid) f a q h
same_joined p (Ask.Leave sid) f a None q h = same_served p (Ask.Leave sid) f a q h
same_joined p (Ask.Size sid size) f a None q h = same_served p (Ask.Size sid size) f a q h
same_joined p (Ask.MaxSize sid) f a None q h = same_served p (Ask.MaxSize sid) f a q h
same_joined p (Ask.Clear sid) f a None q h = same_served p (Ask.Clear sid) f a q h
same_joined p (Ask.Cleared sid) f a None q h = same_served p (Ask.Cleared sid) f a q h
same_joined p (Ask.Lock sid key) f a None q h = same_served p (Ask.Lock sid key) f a q h
same_joined p (Ask.Release sid) f a None q h = same_served p (Ask.Release sid) f a q h
same_joined p (Ask.LockInfo sid) f a None q h = same_served p (Ask.LockInfo sid) f a q h
same_joined p Ask.Join f a None q h = same_served p Ask.Join f a q h
same_joined p (Ask.Attach number) f a None q h = same_served p (Ask.Attach number) f a q h
same_joined p ask f a w q h = absurd h

same_admitted : (now : Admission) (p : Panel) (ask : SessionAsk) (f : Bool) (a : SessionAnswer) (w : Option WorkSeen) (q : Panel)
    → StepAdmitted now p ask f a w q → IsSame p q
same_admitted Dropped p ask f Broken None q h = ap (λ (x : Panel). x.events) h.1
same_admitted Dropped p ask f a w q h = absurd h
same_admitted ShutOut p ask f a w q h = same_held p ask f a w q h
same_admitted Admitted p ask f a w q h = same_joined p ask f a w q h

same_join : (p : Panel) (f : Bool) (a : SessionAnswer) (w : Option WorkSeen) (q : Panel) → StepJoin p f a w q → IsSame p q
same_join p f (Joined sid) None q h = ap (λ (x : Panel). x.events) h.3
same_join p f Full None q h = ap (λ (x : Panel). x.events) h.2
same_join p f a w q h = absurd h

same_attach : (p : Panel) (number : ℕ) (f : Bool) (a : SessionAnswer) (w : Option WorkSeen) (q : Panel) → StepAttach p number f a w q → IsSame p q
same_attach p number f (Joined sid) None q h = ap (λ (x : Panel). x.events) h.2
same_attach p number f Stranger None q h = ap (λ (x : Panel). x.events) h.2
same_attach p number f a w q h = absurd h

same_new : (p : Panel) (ask : SessionAsk) (f : Bool) (a : SessionAnswer) (w : Option WorkSeen) (q : Panel) → StepNew p ask f a w q → IsSame p q
same_new p Ask.Join f a w q h = same_join p f a w q h
same_new p (Ask.Attach number) f a w q h = same_attach p number f a w q h
same_new p ask f a w q h = absurd h

same_session : (o : Option Sid) (p : Panel) (ask : SessionAsk) (f : Bool) (a : SessionAnswer) (w : Option WorkSeen) (q : Panel)
    → StepSession o p ask f a w q → IsSame p q
same_session None p ask f a w q h = same_new p ask f a w q h
same_session (Some sid) p ask f Stranger None q h = ap (λ (x : Panel). x.events) h.2
same_session (Some sid) p ask f a w q h = same_admitted (admission p sid ask) p ask f a w q h.1

-- ---- asks

same_returns : (p : Panel) (done : FinishedSeen) (f : Bool) (told : TakenSeen) (q : Panel) → Returns p done f told q → IsSame p q
same_returns p done f SaysIgnored q h = ap (λ (x : Panel). x.events) h.2
same_returns p done f SaysWaits q h = ap (λ (x : Panel). x.events) h.2.1
same_returns p done f (SaysPause t u) q h = ap (λ (x : Panel). x.events) h.2.1
same_returns p done f (SaysJob job) q h = ap (λ (x : Panel). x.events) h.2.1
same_returns p done f SaysEnded q h = ap (λ (x : Panel). x.events) h.2.1
same_returns p done f SaysFault q h = ap (λ (x : Panel). x.events) h.2.1

same_finished : (p : Panel) (done : FinishedSeen) (f : Bool) (a : AnswerSeen) (q : Panel) → StepFinished p done f a q → IsSame p q
same_finished p done f SaysBack q h = ap (λ (x : Panel). x.events) h.2
same_finished p done f a q h = same_returns p done f h.told q h.returns

same_acts : (p : Panel) (ask : AskSeen) (f : Bool) (a : AnswerSeen) (q : Panel) → Acts p ask f a q → IsSame p q
same_acts p (AskSession ask) f (SaysSession a w) q h = same_session (asker_of ask) p ask f a w q h
same_acts p (AskInstall slot card) f SaysInstalled q h = ap (λ (x : Panel). x.events) h.4
same_acts p (AskInstall slot card) f (SaysNotInstalled refusal) q h = ap (λ (x : Panel). x.events) h.2
same_acts p (AskEject slot) f (SaysEjected card) q h = ap (λ (x : Panel). x.events) h.3
same_acts p (AskEject slot) f (SaysNotEjected refusal) q h = ap (λ (x : Panel). x.events) h.2
same_acts p AskExternal f a q h = same_happens p External f h.told q h.happens
same_acts p (AskElapsed ticket) f a q h = same_happens p (Elapsed ticket) f h.told q h.happens
same_acts p (AskFinished done) f a q h = same_finished p done f a q h
same_acts p ask f a q h = absurd h

-- ---- events

-- an event's end counts it, where there is a number above
counted_end : (n : ℕ) (b : Bool) → n ≤ last_number → (n == last_number) ≡ b → next_number n ≡ n + one_if (true && not b)
counted_end n true k e = grind (arith, nat_tests)
counted_end n false k e = grind (arith, nat_tests)

ended_counted : (n : ℕ) → n ≤ last_number → next_number n ≡ n + one_if (true && not (n == last_number))
ended_counted n k = counted_end n (n == last_number) k refl

none_counted : (n : ℕ) → n ≡ n + 0
none_counted n = omega arith

session_counted : (a : SessionAnswer) (w : Option WorkSeen) (p : Panel) → p.events ≤ last_number
    → (session_concluded a p).events ≡ p.events + one_if (is_counted p.events (SaysSession a w))
session_counted Stranger w p k = none_counted p.events
session_counted Broken w p k = none_counted p.events
session_counted (Hold ask) w p k = none_counted p.events
session_counted (Worn ask) w p k = none_counted p.events
session_counted (Refused e) w p k = ended_counted p.events k
session_counted (Joined sid) w p k = ended_counted p.events k
session_counted Full w p k = ended_counted p.events k
session_counted (Done text) w p k = ended_counted p.events k
session_counted (answers.Snapshot s number) w p k = ended_counted p.events k
session_counted answers.Missed w p k = ended_counted p.events k
session_counted (answers.Max n) w p k = ended_counted p.events k
session_counted (answers.Lock code) w p k = ended_counted p.events k
session_counted (answers.Info exclusive n) w p k = ended_counted p.events k

concluded_counted : (a : AnswerSeen) (p : Panel) → p.events ≤ last_number → (concluded a p).events ≡ p.events + one_if (is_counted p.events a)
concluded_counted (SaysSession a w) p k = session_counted a w p k
concluded_counted SaysInstalled p k = ended_counted p.events k
concluded_counted (SaysNotInstalled refusal) p k = ended_counted p.events k
concluded_counted (SaysEjected card) p k = ended_counted p.events k
concluded_counted (SaysNotEjected refusal) p k = ended_counted p.events k
concluded_counted (SaysTaken work) p k = ended_counted p.events k
concluded_counted SaysMissed p k = ended_counted p.events k
concluded_counted SaysFailed p k = ended_counted p.events k
concluded_counted SaysBack p k = none_counted p.events
concluded_counted SaysWorn p k = none_counted p.events

worn_uncounted : (ask : AskSeen) (a : AnswerSeen) (n : ℕ) → IsWorn ask a → n ≡ n + one_if (is_counted n a)
worn_uncounted (AskSession ask) (SaysSession (Worn back) None) n h = none_counted n
worn_uncounted (AskInstall slot card) SaysWorn n h = none_counted n
worn_uncounted (AskEject slot) SaysWorn n h = none_counted n
worn_uncounted AskExternal SaysWorn n h = none_counted n
worn_uncounted (AskElapsed ticket) SaysWorn n h = none_counted n
worn_uncounted (AskFinished done) SaysWorn n h = none_counted n
worn_uncounted ask a n h = absurd h

either_counted : (b : Bool) (p : Panel) (ask : AskSeen) (f : Bool) (a : AnswerSeen) (q : Panel) → p.events ≤ last_number
    → MatchBool b (IsUnnumbered p ask f a q) (IsEvent p ask f a q) → q.events ≡ p.events + one_if (is_counted p.events a)
either_counted true p ask f a q k h = ap (λ (x : Panel). x.events) h.same ∙ worn_uncounted ask a p.events h.worn
either_counted false p ask f a q k h =
    let s : h.done.events ≡ p.events = same_acts p ask f a h.done h.acts in
    ap (λ (x : Panel). x.events) h.after
    ∙ subst (λ (n : ℕ). (concluded a h.done).events ≡ n + one_if (is_counted n a)) s
    (concluded_counted a h.done (subst (λ (n : ℕ). n ≤ last_number) (sym s) k))

-- a step leads to the next number where its event is numbered, and else to the same
pub step_counted : (p : Panel) (ask : AskSeen) (f : Bool) (a : AnswerSeen) (q : Panel) → p.events ≤ last_number → Step p ask f a q
    → q.events ≡ p.events + one_if (is_counted p.events a)
step_counted p ask f a q k h = either_counted ((p.events == last_number) && not (acts_unnumbered ask)) p ask f a q k h

-- the number is another where the event is counted
pub counted_apart : (p q m n : ℕ) (b : Bool) → m ≡ p → n ≡ q → q ≡ p + one_if b → one_if (not (n == m)) ≡ one_if b
counted_apart p q m n true before after counted = grind (arith, nat_tests)
counted_apart p q m n false before after counted = grind (arith, nat_tests)
