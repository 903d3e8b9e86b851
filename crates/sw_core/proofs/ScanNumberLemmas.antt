-- Scans are numbered one after another, and nothing else changes the number.
use Rattle.std.proofs.Common.{◌≡◌, ℕ, ◌+◌, ◌≤◌, ◌==◌, ◌&&◌, not, Bool, true, false, List, [], ◌∷◌, Option, None, Some, is_some, Result, Ok, Err, refl, sym, ◌∙◌}
use Rattle.std.proofs.Common.{ap, map, arith, ◌⊎◌, inl, inr, if◌then◌else◌}
use Rattle.std.specs.Prelude.{MatchBool}
use Rattle.std.specs.List.{join_with_byte}
use Rattle.sw_base.specs.Layout.{Channel}
use Rattle.sw_base.specs.Reading.{reading_text}
use Rattle.sw_base.specs.declared.reading.Reading.{Reading}
use Rattle.sw_base.specs.declared.error.ScpiError.{ScpiError}
use Rattle.sw_base.specs.declared.error.ScpiError.TheVariants.{UndefinedHeader, DataCorruptOrStale, HardwareMissing, SettingsConflict, HardwareError}
use Rattle.sw_base.specs.declared.error.ScpiError.TheVariants.{OutOfMemory}
use Rattle.sw_card.specs.declared.board.CardFault.{CardFault}
use Rattle.sw_lex.specs.declared.command.Command.{Command}
use Rattle.sw_lex.specs.declared.command.NoData.{NoData}
use Rattle.sw_lex.specs.declared.command.RelayCommand.{RelayCommand}
use Rattle.sw_base.specs.declared.terms.StatusGroup.{StatusGroup}
use Rattle.sw_lex.specs.declared.command.GroupQuery.{GroupQuery}
use Rattle.sw_lex.specs.declared.command.SlotQuery.{SlotQuery}
use Rattle.sw_verify.specs.declared.setup.Setup.{Setup}
use Rattle.sw_status.specs.StatusModel.{StatusSeen}
use Rattle.sw_verify.specs.declared.snapshot.Snapshot.{Snapshot}
use Rattle.sw_cage.specs.Cage.{ScanSeen, CageSeen, safe_state}
use Rattle.sw_cage.specs.Install.{stopped}
use Rattle.sw_cage.specs.Outcome.{AdvancesPastFrom, Counts, with_back, with_reading}
use Rattle.sw_cage.specs.Work.{FinishedSeen}
use Rattle.sw_cage.specs.TakenSeen.{TakenSeen, SaysIgnored}
use Rattle.sw_cage.specs.declared.taken.Happening.{Happening}
use Rattle.sw_cage.specs.declared.taken.Happening.TheVariants.{Bus, External, Elapsed}
use Rattle.sw_core.specs.declared.ask.Sid.{Sid}
use Rattle.sw_core.specs.declared.ask.SessionAsk.{SessionAsk}
use Rattle.sw_core.specs.declared.ask.SessionAsk.TheVariants as Ask
use Rattle.sw_core.specs.declared.ask.SessionAnswer.{SessionAnswer}
use Rattle.sw_core.specs.declared.ask.SessionAnswer.TheVariants as answers
use Rattle.sw_core.specs.declared.ask.SessionAnswer.TheVariants.{Joined, Full, Stranger, Broken, Done, Refused, Hold, Worn}
use Rattle.sw_core.specs.Panel.{Panel, with_cards, is_running}
use Rattle.sw_core.specs.Action.{Effect, TellsText, TellsReadings, ReadsOut, SetsStatus, SetsUp, ClosesListed, OpensListed, TellsHardware, TellsSurety, TellsListing}
use Rattle.sw_core.specs.Action.{Changes}
use Rattle.sw_core.specs.Action.{Resets, Triggers, RefusesWith, IsOfMacros, Initiates, Action, AtOnce, BetweenScans, AfterScan, action_of, reset}
use Rattle.sw_core.specs.Event.{last_number}
use Rattle.sw_core.specs.Seats.{asker_of}
use Rattle.sw_core.specs.Seen.{WorkSeen, AskSeen, AskSession, AskInstall, AskEject, AskExternal, AskElapsed, AskFinished, AnswerSeen, SaysSession}
use Rattle.sw_core.specs.Seen.{SaysInstalled, SaysNotInstalled, SaysEjected, SaysNotEjected, SaysBack}
use Rattle.sw_core.specs.Step.{StepClose, StepOpen, StepHardware, StepSurety, StepListing, StepText, StepDone, StepSetting, StepRefused, StepReadings, StepAlone, StepEffect, StepHeld}
use Rattle.sw_core.specs.Step.{StepAction, StepSnapshot, StepStart, IsServed, StepJoined, StepAdmitted, StepJoin, StepAttach, StepNew, StepSession}
use Rattle.sw_core.specs.Step.{Happens, Returns, StepFinished, Acts, acts_unnumbered, IsWorn, IsEvent, IsUnnumbered, Step}
use Rattle.sw_core.specs.Step.{Admission, Dropped, ShutOut, Admitted, admission}
use Rattle.sw_core.specs.Run.{Event, IsNextEvent, IsRun}
use Rattle.sw_core.specs.Ends.{begins, BeginsNoScan, last_of}
use Rattle.sw_core.proofs.MovingLemmas.{concluded_scan}
use Rattle.sw_core.proofs.SettledLemmas.{IsSilent}

-- ---- commands

-- no scan is numbered
abbrev IsKeeping : Panel → Panel → Type 0
IsKeeping p q = q.cage.number ≡ p.cage.number

keep_as : (p q r : Panel) → q ≡ r → IsKeeping p r → IsKeeping p q
keep_as p q r e k = ap (λ (x : Panel). x.cage.number) e ∙ k

keep_is : (p q : Panel) → q ≡ p → IsKeeping p q
keep_is p q e = ap (λ (x : Panel). x.cage.number) e

keep_close : (p : Panel) (chans : List Channel) (f : Bool) (a : SessionAnswer) (q : Panel) → StepClose p chans f a q → IsKeeping p q
keep_close p chans f (Done None) q h = keep_as p q (with_cards p q.cage.cards) h.3 refl
keep_close p chans f (Refused HardwareMissing) q h = keep_is p q h.2
keep_close p chans f (Refused SettingsConflict) q h = keep_is p q h.2
keep_close p chans f (Refused HardwareError) q h = ap (λ (x : Panel). x.cage.number) h.2.1
keep_close p chans f a q h = absurd h

keep_open : (p : Panel) (chans : List Channel) (f : Bool) (a : SessionAnswer) (q : Panel) → StepOpen p chans f a q → IsKeeping p q
keep_open p chans f (Done None) q h = keep_as p q (with_cards p q.cage.cards) h.3 refl
keep_open p chans f (Refused HardwareMissing) q h = keep_is p q h.2
keep_open p chans f (Refused HardwareError) q h = ap (λ (x : Panel). x.cage.number) h.2.1
keep_open p chans f a q h = absurd h

keep_hardware : (p : Panel) (there : Bool) (text : List ℕ) (f : Bool) (a : SessionAnswer) (q : Panel) → StepHardware p there text f a q → IsKeeping p q
keep_hardware p there text f (Done (Some t)) q h = keep_is p q h.3
keep_hardware p there text f (Refused HardwareMissing) q h = keep_is p q h.2
keep_hardware p there text f (Refused OutOfMemory) q h = keep_is p q h.2
keep_hardware p there text f a q h = absurd h

keep_surety : (p : Panel) (text : Bool → List ℕ) (f : Bool) (a : SessionAnswer) (q : Panel) → StepSurety p text f a q → IsKeeping p q
keep_surety p text f (Done (Some t)) q h = keep_is p q h.2
keep_surety p text f a q h = absurd h

keep_listing : (p : Panel) (listing : List ℕ) (f : Bool) (a : SessionAnswer) (q : Panel) → StepListing p listing f a q → IsKeeping p q
keep_listing p listing f (Done (Some t)) q h = keep_is p q h.2
keep_listing p listing f (Refused OutOfMemory) q h = keep_is p q h.1
keep_listing p listing f a q h = absurd h

keep_text : (p : Panel) (text : List ℕ) (status : StatusSeen) (f : Bool) (a : SessionAnswer) (q : Panel) → StepText p text status f a q → IsKeeping p q
keep_text p text status f (Done (Some t)) q h = keep_as p q (record p { status = status }) h.2 refl
keep_text p text status f (Refused OutOfMemory) q h = keep_is p q h.1
keep_text p text status f a q h = absurd h

keep_done : (p after : Panel) (f : Bool) (a : SessionAnswer) (q : Panel) → IsKeeping p after → StepDone after f a q → IsKeeping p q
keep_done p after f (Done None) q k h = keep_as p q after h.1 k
keep_done p after f a q k h = absurd h

keep_setting : (p : Panel) (Fits : Type 0) (error : ScpiError) (setup : Setup) (f : Bool) (a : SessionAnswer) (q : Panel)
    → StepSetting p Fits error setup f a q → IsKeeping p q
keep_setting p Fits error setup f (Done None) q h = keep_as p q (record p { settings = setup }) h.2 refl
keep_setting p Fits error setup f (Refused e) q h = keep_is p q h.3
keep_setting p Fits error setup f a q h = absurd h

keep_refused : (p : Panel) (error : ScpiError) (f : Bool) (a : SessionAnswer) (q : Panel) → StepRefused p error f a q → IsKeeping p q
keep_refused p error f (Refused e) q h = keep_is p q h.2
keep_refused p error f a q h = absurd h

keep_readings : (l : List Reading) (p : Panel) (f : Bool) (a : SessionAnswer) (q : Panel) → StepReadings l p f a q → IsKeeping p q
keep_readings [] p f a q h = keep_refused p DataCorruptOrStale f a q h
keep_readings (r ∷ rs) p f a q h = keep_text p (join_with_byte 44 (map reading_text (r ∷ rs))) p.status f a q h

-- what an effect that changes the state of itself leaves
abbrev KeepsEffect : Panel → Effect → Type 0
KeepsEffect p (Changes after) = IsKeeping p (after p)
KeepsEffect p effect = IsKeeping p p

abbrev KeepsAction : Panel → Action → Type 0
KeepsAction p (AtOnce effect) = KeepsEffect p effect
KeepsAction p (BetweenScans effect) = KeepsEffect p effect
KeepsAction p (AfterScan effect) = KeepsEffect p effect

keeps_command : (p : Panel) (available : Bool) (command : Command) → KeepsAction p (action_of available command)
keeps_command p available (Command.NoData NoData.Reset) = refl
keeps_command p available (Command.Continuous true) = refl
keeps_command p available (Command.Continuous false) = refl
keeps_command p available (Command.Relays RelayCommand.Close chans) = refl
keeps_command p available (Command.GroupQuery GroupQuery.Condition StatusGroup.Operation) = refl
keeps_command p available (Command.GroupQuery GroupQuery.Condition StatusGroup.Questionable) = refl
keeps_command p available (Command.GroupQuery GroupQuery.Enable group) = refl
keeps_command p available (Command.GroupQuery GroupQuery.PositiveTransition group) = refl
keeps_command p available (Command.GroupQuery GroupQuery.NegativeTransition group) = refl
keeps_command p available (Command.SlotQuery SlotQuery.Kind slot) = refl
keeps_command p available (Command.SlotQuery SlotQuery.Groups slot) = refl
keeps_command p available (Command.SlotQuery SlotQuery.State slot) = refl
keeps_command p available command = refl

keep_alone : (d : Effect) (p : Panel) (f : Bool) (a : SessionAnswer) (q : Panel) → KeepsEffect p d → StepAlone d p f a q → IsKeeping p q
keep_alone (TellsText text) p f a q k h = keep_text p (text p) p.status f a q h
keep_alone (TellsReadings readings) p f a q k h = keep_readings (readings p) p f a q h
keep_alone (ReadsOut text after) p f a q k h = keep_text p (text p.status) (after p.status) f a q h
keep_alone (SetsStatus after) p f a q k h = keep_done p (record p { status = after p.status }) f a q refl h
keep_alone (SetsUp Fits error after) p f a q k h = keep_setting p (Fits p.settings) error (after p.settings) f a q h
keep_alone (ClosesListed chans) p f a q k h = keep_close p chans f a q h
keep_alone (OpensListed chans) p f a q k h = keep_open p chans f a q h
keep_alone (TellsHardware there text) p f a q k h = keep_hardware p (there p) (text p) f a q h
keep_alone (TellsSurety text) p f a q k h = keep_surety p (text p) f a q h
keep_alone (TellsListing listing) p f a q k h = keep_listing p listing f a q h
keep_alone (Changes after) p f a q k h = keep_done p (after p) f a q k h
keep_alone Resets p f a q k h = keep_done p (reset p) f a q refl h
keep_alone (RefusesWith error) p f a q k h = keep_refused p error f a q h
keep_alone IsOfMacros p f a q k h = keep_refused p UndefinedHeader f a q h
keep_alone Initiates p f a q k h = keep_refused p UndefinedHeader f a q h
keep_alone (Triggers happening error) p f a q k h = absurd h

past_number : (c d : CageSeen) (scan : Option ScanSeen) (told : TakenSeen) → AdvancesPastFrom c scan told d → d.number ≡ c.number
past_number c d None told h = absurd h
past_number c d (Some at) told h = h.number

keep_happens : (p : Panel) (happening : Happening) (f : Bool) (told : TakenSeen) (q : Panel) → Happens p happening f told q → IsKeeping p q
keep_happens p happening f SaysIgnored q h = keep_is p q h.2
keep_happens p happening f told q h = past_number p.cage q.cage p.cage.scan told h.1

keep_effect : (d : Effect) (p : Panel) (f : Bool) (a : SessionAnswer) (w : Option WorkSeen) (q : Panel) → KeepsEffect p d → StepEffect d p f a w q
    → IsKeeping p q
keep_effect (Triggers happening error) p f a w q k h = keep_happens p happening f h.told q h.happens
keep_effect d p f a w q k h = keep_alone d p f a q k h.0

keep_held : (p : Panel) (ask : SessionAsk) (f : Bool) (a : SessionAnswer) (w : Option WorkSeen) (q : Panel) → StepHeld p ask f a w q → IsKeeping p q
keep_held p ask f (Hold back) None q h = keep_is p q h.2
keep_held p ask f a w q h = absurd h

keep_barred : (b : Bool) (d : Effect) (p : Panel) (f : Bool) (a : SessionAnswer) (w : Option WorkSeen) (q : Panel) → KeepsEffect p d
    → MatchBool b (StepRefused p SettingsConflict f a q × (w ≡ None)) (StepEffect d p f a w q) → IsKeeping p q
keep_barred true d p f a w q k h = keep_refused p SettingsConflict f a q h.0
keep_barred false d p f a w q k h = keep_effect d p f a w q k h

keep_waiting : (b : Bool) (d : Effect) (p : Panel) (ask : SessionAsk) (f : Bool) (a : SessionAnswer) (w : Option WorkSeen) (q : Panel) → KeepsEffect p d
    → MatchBool b (StepHeld p ask f a w q) (StepEffect d p f a w q) → IsKeeping p q
keep_waiting true d p ask f a w q k h = keep_held p ask f a w q h
keep_waiting false d p ask f a w q k h = keep_effect d p f a w q k h

keep_action : (x : Action) (p : Panel) (ask : SessionAsk) (f : Bool) (a : SessionAnswer) (w : Option WorkSeen) (q : Panel) → KeepsAction p x
    → StepAction x p ask f a w q → IsKeeping p q
keep_action (AtOnce d) p ask f a w q k h = keep_effect d p f a w q k h
keep_action (BetweenScans d) p ask f a w q k h = keep_barred (is_running p) d p f a w q k h
keep_action (AfterScan d) p ask f a w q k h = keep_waiting (is_running p) d p ask f a w q k h

keep_unit : (p : Panel) (sid : Sid) (command : Command) (available f : Bool) (a : SessionAnswer) (w : Option WorkSeen) (q : Panel)
    → StepAction (action_of available command) p (Ask.Unit sid command available) f a w q → IsKeeping p q
keep_unit p sid command available f a w q h =
    keep_action (action_of available command) p (Ask.Unit sid command available) f a w q (keeps_command p available command) h

-- ---- scans and seats

keep_snapshot : (p : Panel) (f : Bool) (a : SessionAnswer) (q : Panel) → StepSnapshot p f a q → IsKeeping p q
keep_snapshot p f (answers.Snapshot s number) q h = keep_is p q h.3
keep_snapshot p f (Refused OutOfMemory) q h = keep_is p q h.2
keep_snapshot p f (Refused e) q h = keep_is p q h.2
keep_snapshot p f a q h = absurd h

-- the number of scans after an event: one more where a scan begins, one that a card's failure ends at once included
abbrev pub number_after : AskSeen → AnswerSeen → ℕ → ℕ
number_after (AskSession (Ask.Start sid plan)) (SaysSession (Done text) work) n = n + 1
number_after (AskSession (Ask.Start sid plan)) (SaysSession (Refused HardwareError) work) n = n + 1
number_after ask answer n = n

counts_start : (p : Panel) (sid : Sid) (plan : Snapshot) (f : Bool) (a : SessionAnswer) (w : Option WorkSeen) (q : Panel) → StepStart p plan f a w q
    → q.cage.number ≡ number_after (AskSession (Ask.Start sid plan)) (SaysSession a w) p.cage.number
counts_start p sid plan f (Done None) w q h = h.starts.3.number
counts_start p sid plan f (Refused HardwareError) w q h = h.starts.3.number
counts_start p sid plan f (Refused OutOfMemory) None q h = keep_is p q h.3
counts_start p sid plan f (Refused SettingsConflict) None q h = keep_is p q h.2
counts_start p sid plan f (Refused e) None q h = keep_is p q h.2
counts_start p sid plan f a w q h = absurd h

keep_served : (p : Panel) (ask : SessionAsk) (f : Bool) (a : SessionAnswer) (q : Panel) → IsServed p ask f a q → IsKeeping p q
keep_served p ask f a q h = ap (λ (x : Panel). x.cage.number) h.after

counts_joined : (p : Panel) (ask : SessionAsk) (f : Bool) (a : SessionAnswer) (w : Option WorkSeen) (q : Panel) → StepJoined p ask f a w q
    → q.cage.number ≡ number_after (AskSession ask) (SaysSession a w) p.cage.number
counts_joined p (Ask.Fault sid e) f (Done None) None q h = ap (λ (x : Panel). x.cage.number) h.1
counts_joined p (Ask.Fault sid e) f a None q h = keep_served p (Ask.Fault sid e) f a q h
counts_joined p (Ask.Unit sid command available) f a w q h = keep_unit p sid command available f a w q h
counts_joined p (Ask.Bus sid) f a w q h = keep_happens p Bus f h.told q h.happens
counts_joined p (Ask.Snapshot sid) f a None q h = keep_snapshot p f a q h
counts_joined p (Ask.Start sid plan) f a w q h = counts_start p sid plan f a w q h
counts_joined p (Ask.Attached sid) f a None q h = keep_served p (Ask.Attached sid) f a q h
counts_joined p (Ask.Leave sid) f a None q h = keep_served p (Ask.Leave sid) f a q h
counts_joined p (Ask.Size sid size) f a None q h = keep_served p (Ask.Size sid size) f a q h
counts_joined p (Ask.MaxSize sid) f a None q h = keep_served p (Ask.MaxSize sid) f a q h
counts_joined p (Ask.Clear sid) f a None q h = keep_served p (Ask.Clear sid) f a q h
counts_joined p (Ask.Cleared sid) f a None q h = keep_served p (Ask.Cleared sid) f a q h
counts_joined p (Ask.Lock sid key) f a None q h = keep_served p (Ask.Lock sid key) f a q h
counts_joined p (Ask.Release sid) f a None q h = keep_served p (Ask.Release sid) f a q h
counts_joined p (Ask.LockInfo sid) f a None q h = keep_served p (Ask.LockInfo sid) f a q h
counts_joined p Ask.Join f a None q h = keep_served p Ask.Join f a q h
counts_joined p (Ask.Attach number) f a None q h = keep_served p (Ask.Attach number) f a q h
counts_joined p ask f a w q h = absurd h

-- what is no event begins no scan
uncounted : (ask : SessionAsk) (a : SessionAnswer) (w : Option WorkSeen) (n : ℕ) → IsSilent a → number_after (AskSession ask) (SaysSession a w) n ≡ n
uncounted (Ask.Start sid plan) Stranger w n s = refl
uncounted (Ask.Start sid plan) Broken w n s = refl
uncounted (Ask.Start sid plan) (Hold back) w n s = refl
uncounted (Ask.Start sid plan) (Worn back) w n s = refl
uncounted (Ask.Start sid plan) a w n s = absurd s
uncounted ask a w n s = refl

silent_counts : (p : Panel) (ask : SessionAsk) (a : SessionAnswer) (w : Option WorkSeen) (q : Panel) → IsSilent a → q ≡ p
    → q.cage.number ≡ number_after (AskSession ask) (SaysSession a w) p.cage.number
silent_counts p ask a w q s e = keep_is p q e ∙ sym (uncounted ask a w p.cage.number s)

counts_admitted : (now : Admission) (p : Panel) (ask : SessionAsk) (f : Bool) (a : SessionAnswer) (w : Option WorkSeen) (q : Panel)
    → StepAdmitted now p ask f a w q → q.cage.number ≡ number_after (AskSession ask) (SaysSession a w) p.cage.number
counts_admitted Dropped p ask f Broken None q h = silent_counts p ask Broken None q tt h.1
counts_admitted Dropped p ask f a w q h = absurd h
counts_admitted ShutOut p ask f (Hold back) None q h = silent_counts p ask (Hold back) None q tt h.2
counts_admitted ShutOut p ask f a w q h = absurd h
counts_admitted Admitted p ask f a w q h = counts_joined p ask f a w q h

keep_join : (p : Panel) (f : Bool) (a : SessionAnswer) (w : Option WorkSeen) (q : Panel) → StepJoin p f a w q → IsKeeping p q
keep_join p f (Joined sid) None q h = ap (λ (x : Panel). x.cage.number) h.3
keep_join p f Full None q h = keep_is p q h.2
keep_join p f a w q h = absurd h

keep_attach : (p : Panel) (number : ℕ) (f : Bool) (a : SessionAnswer) (w : Option WorkSeen) (q : Panel) → StepAttach p number f a w q → IsKeeping p q
keep_attach p number f (Joined sid) None q h = ap (λ (x : Panel). x.cage.number) h.2
keep_attach p number f Stranger None q h = keep_is p q h.2
keep_attach p number f a w q h = absurd h

counts_new : (p : Panel) (ask : SessionAsk) (f : Bool) (a : SessionAnswer) (w : Option WorkSeen) (q : Panel) → StepNew p ask f a w q
    → q.cage.number ≡ number_after (AskSession ask) (SaysSession a w) p.cage.number
counts_new p Ask.Join f a w q h = keep_join p f a w q h
counts_new p (Ask.Attach number) f a w q h = keep_attach p number f a w q h
counts_new p ask f a w q h = absurd h

counts_session : (o : Option Sid) (p : Panel) (ask : SessionAsk) (f : Bool) (a : SessionAnswer) (w : Option WorkSeen) (q : Panel)
    → StepSession o p ask f a w q → q.cage.number ≡ number_after (AskSession ask) (SaysSession a w) p.cage.number
counts_session None p ask f a w q h = counts_new p ask f a w q h
counts_session (Some sid) p ask f Stranger None q h = silent_counts p ask Stranger None q tt h.2
counts_session (Some sid) p ask f a w q h = counts_admitted (admission p sid ask) p ask f a w q h.1

-- ---- meters

counts_number : (c d : CageSeen) (outcome : Result Reading CardFault) (told : TakenSeen) → Counts c outcome told d → d.number ≡ c.number
counts_number c d (Ok r) told h = past_number (with_reading c r) d c.scan told h
counts_number c d (Err e) told h = ap (λ (x : CageSeen). x.number) h.1

keep_returns : (p : Panel) (done : FinishedSeen) (f : Bool) (told : TakenSeen) (q : Panel) → Returns p done f told q → IsKeeping p q
keep_returns p done f SaysIgnored q h = ap (λ (x : Panel). x.cage.number) h.2
keep_returns p done f told q h = counts_number (with_back p.cage done) q.cage done.outcome told h.1

keep_finished : (p : Panel) (done : FinishedSeen) (f : Bool) (a : AnswerSeen) (q : Panel) → StepFinished p done f a q → IsKeeping p q
keep_finished p done f SaysBack q h = keep_is p q h.2
keep_finished p done f a q h = keep_returns p done f h.told q h.returns

stopped_number : (c : CageSeen) → (stopped c).number ≡ c.number
stopped_number c = by_scan (is_some c.scan)
  where
    by_scan : (b : Bool) → (if b then safe_state c else c).number ≡ c.number
    by_scan true = refl
    by_scan false = refl

-- ---- events

counts_acts : (p : Panel) (ask : AskSeen) (f : Bool) (a : AnswerSeen) (q : Panel) → Acts p ask f a q → q.cage.number ≡ number_after ask a p.cage.number
counts_acts p (AskSession ask) f (SaysSession a w) q h = counts_session (asker_of ask) p ask f a w q h
counts_acts p (AskInstall slot card) f SaysInstalled q h = ap (λ (x : Panel). x.cage.number) h.4
counts_acts p (AskInstall slot card) f (SaysNotInstalled refusal) q h = keep_is p q h.2
counts_acts p (AskEject slot) f (SaysEjected card) q h = ap (λ (x : Panel). x.cage.number) h.3 ∙ stopped_number p.cage
counts_acts p (AskEject slot) f (SaysNotEjected refusal) q h = keep_is p q h.2
counts_acts p AskExternal f a q h = keep_happens p External f h.told q h.happens
counts_acts p (AskElapsed ticket) f a q h = keep_happens p (Elapsed ticket) f h.told q h.happens
counts_acts p (AskFinished done) f a q h = keep_finished p done f a q h
counts_acts p ask f a q h = absurd h

uncounted_worn : (ask : AskSeen) (a : AnswerSeen) (n : ℕ) → IsWorn ask a → number_after ask a n ≡ n
uncounted_worn (AskSession ask) (SaysSession (Worn back) None) n h = uncounted ask (Worn back) None n tt
uncounted_worn (AskSession ask) a n h = absurd h
uncounted_worn ask a n h = refl

counts_either : (b : Bool) (p : Panel) (ask : AskSeen) (f : Bool) (a : AnswerSeen) (q : Panel)
    → MatchBool b (IsUnnumbered p ask f a q) (IsEvent p ask f a q) → q.cage.number ≡ number_after ask a p.cage.number
counts_either true p ask f a q h = keep_is p q h.same ∙ sym (uncounted_worn ask a p.cage.number h.worn)
counts_either false p ask f a q h =
    ap (λ (c : CageSeen). c.number) (ap (λ (x : Panel). x.cage) h.after ∙ concluded_scan a h.done) ∙ counts_acts p ask f a h.done h.acts

counts_step : (p : Panel) (ask : AskSeen) (f : Bool) (a : AnswerSeen) (q : Panel) → Step p ask f a q → q.cage.number ≡ number_after ask a p.cage.number
counts_step p ask f a q h = counts_either ((p.events == last_number) && not (acts_unnumbered ask)) p ask f a q h

-- ---- runs

counts_up : (ask : AskSeen) (a : AnswerSeen) (n : ℕ) → n ≤ number_after ask a n
counts_up (AskSession (Ask.Start sid plan)) (SaysSession (Done text) w) n = omega arith
counts_up (AskSession (Ask.Start sid plan)) (SaysSession (Refused HardwareError) w) n = omega arith
counts_up ask a n = omega arith

counts_one : (ask : AskSeen) (a : AnswerSeen) (n : ℕ) → begins ask a ≡ true → number_after ask a n ≡ n + 1
counts_one (AskSession (Ask.Start sid plan)) (SaysSession (Done text) w) n b = refl
counts_one ask a n b = absurd (cc (b))

-- an event begins no scan, or numbers it
either_counts : (b : Bool) (p : Panel) (e : Event) → begins e.ask e.answer ≡ b → IsNextEvent p e
    → ((b ≡ false) × (p.cage.number ≤ e.panel.cage.number)) ⊎ (e.panel.cage.number ≡ p.cage.number + 1)
either_counts false p e is r =
    let step = counts_step p e.ask _ e.answer e.panel r.step in
    let up = counts_up e.ask e.answer p.cage.number in
    inl (refl, omega (arith, step, up))
either_counts true p e is r = inr (counts_step p e.ask _ e.answer e.panel r.step ∙ counts_one e.ask e.answer p.cage.number is)

pub number_begun : (p : Panel) (e : Event) → begins e.ask e.answer ≡ true → IsNextEvent p e → e.panel.cage.number ≡ p.cage.number + 1
number_begun p e is r = counts_step p e.ask _ e.answer e.panel r.step ∙ counts_one e.ask e.answer p.cage.number is

pub number_grows : (p : Panel) (events : List Event) → IsRun p events → p.cage.number ≤ (last_of p events).cage.number
number_grows p [] r = omega arith
number_grows p (e ∷ events) r =
    let step = counts_step p e.ask _ e.answer e.panel r.0.step in
    let up = counts_up e.ask e.answer p.cage.number in
    let on = number_grows e.panel events r.1 in
    omega (arith, step, up, on)

-- where the number did not grow, no scan began
pub number_stays : (p : Panel) (events : List Event) → IsRun p events → (last_of p events).cage.number ≤ p.cage.number → BeginsNoScan events
number_stays p [] r n = tt
number_stays p (e ∷ events) r n =
    let on = number_grows e.panel events r.1 in
    elim (either_counts (begins e.ask e.answer) p e refl r.0) [
      | inl k ↦ (k.0, number_stays e.panel events r.1 (omega (arith, n, k.1)))
      | inr k ↦ absurd (omega (arith, n, on, k))
    ]
