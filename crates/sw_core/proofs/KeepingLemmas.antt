-- What each ask leaves of the readings, and that commands change nothing of who is joined.
use Rattle.std.proofs.Common.{◌≡◌, ℕ, ◌==◌, ◌&&◌, not, Bool, true, false, List, [], ◌∷◌, Option, None, Some, Result, Ok, Err, refl, sym, ◌∙◌, ap, map}
use Rattle.std.specs.Prelude.{MatchBool}
use Rattle.std.specs.List.{join_with_byte}
use Rattle.sw_base.specs.Layout.{Channel}
use Rattle.sw_base.specs.Reading.{reading_text}
use Rattle.sw_base.specs.declared.reading.Reading.{Reading}
use Rattle.sw_base.specs.declared.error.ScpiError.{ScpiError}
use Rattle.sw_base.specs.declared.error.ScpiError.TheVariants.{UndefinedHeader, DataCorruptOrStale, HardwareMissing, SettingsConflict, HardwareError}
use Rattle.sw_base.specs.declared.error.ScpiError.TheVariants.{OutOfMemory}
use Rattle.sw_card.specs.declared.board.CardFault.{CardFault}
use Rattle.sw_lex.specs.declared.command.Command.{Command}
use Rattle.sw_lex.specs.declared.command.NoData.{NoData}
use Rattle.sw_lex.specs.declared.command.RelayCommand.{RelayCommand}
use Rattle.sw_base.specs.declared.terms.StatusGroup.{StatusGroup}
use Rattle.sw_lex.specs.declared.command.GroupQuery.{GroupQuery}
use Rattle.sw_lex.specs.declared.command.SlotQuery.{SlotQuery}
use Rattle.sw_verify.specs.declared.setup.Setup.{Setup}
use Rattle.sw_status.specs.StatusModel.{StatusSeen}
use Rattle.sw_verify.specs.declared.snapshot.Snapshot.{Snapshot}
use Rattle.sw_cage.specs.Cage.{ScanSeen, CageSeen}
use Rattle.sw_cage.specs.Outcome.{AdvancesPastFrom, Counts, readings_with, with_back, with_reading}
use Rattle.sw_cage.specs.Work.{FinishedSeen}
use Rattle.sw_cage.specs.TakenSeen.{TakenSeen, SaysIgnored}
use Rattle.sw_cage.specs.declared.taken.Happening.{Happening}
use Rattle.sw_cage.specs.declared.taken.Happening.TheVariants.{Bus, External, Elapsed}
use Rattle.sw_core.specs.declared.ask.Sid.{Sid}
use Rattle.sw_core.specs.declared.ask.SessionAsk.{SessionAsk}
use Rattle.sw_core.specs.declared.ask.SessionAsk.TheVariants as Ask
use Rattle.sw_core.specs.declared.ask.SessionAnswer.{SessionAnswer}
use Rattle.sw_core.specs.declared.ask.SessionAnswer.TheVariants as answers
use Rattle.sw_core.specs.declared.ask.SessionAnswer.TheVariants.{Joined, Full, Stranger, Broken, Done, Refused, Hold, Worn}
use Rattle.sw_core.specs.Panel.{Panel, with_cards, is_running}
use Rattle.sw_core.specs.Action.{Effect, TellsText, TellsReadings, ReadsOut, SetsStatus, SetsUp, ClosesListed, OpensListed, TellsHardware, TellsSurety, TellsListing}
use Rattle.sw_core.specs.Action.{Changes}
use Rattle.sw_core.specs.Action.{Resets, Triggers, RefusesWith, IsOfMacros, Initiates, Action, AtOnce, BetweenScans, AfterScan, action_of}
use Rattle.sw_core.specs.Event.{last_number}
use Rattle.sw_core.specs.Seats.{asker_of}
use Rattle.sw_core.specs.Seen.{WorkSeen, AskSeen, AskSession, AskInstall, AskEject, AskExternal, AskElapsed, AskFinished, AnswerSeen, SaysSession}
use Rattle.sw_core.specs.Seen.{SaysInstalled, SaysNotInstalled, SaysEjected, SaysNotEjected, SaysBack, SaysWorn}
use Rattle.sw_core.specs.Step.{StepClose, StepOpen, StepHardware, StepSurety, StepListing, StepText, StepDone, StepSetting, StepRefused, StepReadings, StepAlone, StepEffect, StepHeld}
use Rattle.sw_core.specs.Step.{StepAction, StepSnapshot, StepStart, IsServed, StepJoined, StepAdmitted, StepJoin, StepAttach, StepNew, StepSession}
use Rattle.sw_core.specs.Step.{Happens, outside_told, Returns, StepFinished, Acts, acts_unnumbered, IsWorn, IsEvent, IsUnnumbered, Step}
use Rattle.sw_core.specs.Step.{Admission, Dropped, ShutOut, Admitted, admission}
use Rattle.sw_core.specs.Taken.{readings_after}
use Rattle.sw_core.proofs.MovingLemmas.{concluded_scan, stopped_readings}
use Rattle.sw_core.proofs.SettledLemmas.{IsSilent}

-- ---- commands

-- no reading comes or goes, and nobody joins or leaves
abbrev pub IsKeeping : Panel → Panel → Type 0
IsKeeping p q = (q.sessions ≡ p.sessions) × (q.cage.readings ≡ p.cage.readings)

pub keep_as : (p q r : Panel) → q ≡ r → IsKeeping p r → IsKeeping p q
keep_as p q r e k = (ap (λ (x : Panel). x.sessions) e ∙ k.0, ap (λ (x : Panel). x.cage.readings) e ∙ k.1)

pub keep_is : (p q : Panel) → q ≡ p → IsKeeping p q
keep_is p q e = keep_as p q p e (refl, refl)

keep_close : (p : Panel) (chans : List Channel) (f : Bool) (a : SessionAnswer) (q : Panel) → StepClose p chans f a q → IsKeeping p q
keep_close p chans f (Done None) q h = keep_as p q (with_cards p q.cage.cards) h.3 (refl, refl)
keep_close p chans f (Refused HardwareMissing) q h = keep_is p q h.2
keep_close p chans f (Refused SettingsConflict) q h = keep_is p q h.2
keep_close p chans f (Refused HardwareError) q h = (ap (λ (x : Panel). x.sessions) h.2.1, ap (λ (x : Panel). x.cage.readings) h.2.1)
keep_close p chans f a q h = absurd h

keep_open : (p : Panel) (chans : List Channel) (f : Bool) (a : SessionAnswer) (q : Panel) → StepOpen p chans f a q → IsKeeping p q
keep_open p chans f (Done None) q h = keep_as p q (with_cards p q.cage.cards) h.3 (refl, refl)
keep_open p chans f (Refused HardwareMissing) q h = keep_is p q h.2
keep_open p chans f (Refused HardwareError) q h = (ap (λ (x : Panel). x.sessions) h.2.1, ap (λ (x : Panel). x.cage.readings) h.2.1)
keep_open p chans f a q h = absurd h

keep_hardware : (p : Panel) (there : Bool) (text : List ℕ) (f : Bool) (a : SessionAnswer) (q : Panel) → StepHardware p there text f a q → IsKeeping p q
keep_hardware p there text f (Done (Some t)) q h = keep_is p q h.3
keep_hardware p there text f (Refused HardwareMissing) q h = keep_is p q h.2
keep_hardware p there text f (Refused OutOfMemory) q h = keep_is p q h.2
keep_hardware p there text f a q h = absurd h

keep_surety : (p : Panel) (text : Bool → List ℕ) (f : Bool) (a : SessionAnswer) (q : Panel) → StepSurety p text f a q → IsKeeping p q
keep_surety p text f (Done (Some t)) q h = keep_is p q h.2
keep_surety p text f a q h = absurd h

keep_listing : (p : Panel) (listing : List ℕ) (f : Bool) (a : SessionAnswer) (q : Panel) → StepListing p listing f a q → IsKeeping p q
keep_listing p listing f (Done (Some t)) q h = keep_is p q h.2
keep_listing p listing f (Refused OutOfMemory) q h = keep_is p q h.1
keep_listing p listing f a q h = absurd h

keep_text : (p : Panel) (text : List ℕ) (status : StatusSeen) (f : Bool) (a : SessionAnswer) (q : Panel) → StepText p text status f a q → IsKeeping p q
keep_text p text status f (Done (Some t)) q h = keep_as p q (record p { status = status }) h.2 (refl, refl)
keep_text p text status f (Refused OutOfMemory) q h = keep_is p q h.1
keep_text p text status f a q h = absurd h

keep_done : (p after : Panel) (f : Bool) (a : SessionAnswer) (q : Panel) → IsKeeping p after → StepDone after f a q → IsKeeping p q
keep_done p after f (Done None) q k h = keep_as p q after h.1 k
keep_done p after f a q k h = absurd h

keep_setting : (p : Panel) (Fits : Type 0) (error : ScpiError) (setup : Setup) (f : Bool) (a : SessionAnswer) (q : Panel)
    → StepSetting p Fits error setup f a q → IsKeeping p q
keep_setting p Fits error setup f (Done None) q h = keep_as p q (record p { settings = setup }) h.2 (refl, refl)
keep_setting p Fits error setup f (Refused e) q h = keep_is p q h.3
keep_setting p Fits error setup f a q h = absurd h

keep_refused : (p : Panel) (error : ScpiError) (f : Bool) (a : SessionAnswer) (q : Panel) → StepRefused p error f a q → IsKeeping p q
keep_refused p error f (Refused e) q h = keep_is p q h.2
keep_refused p error f a q h = absurd h

keep_readings : (l : List Reading) (p : Panel) (f : Bool) (a : SessionAnswer) (q : Panel) → StepReadings l p f a q → IsKeeping p q
keep_readings [] p f a q h = keep_refused p DataCorruptOrStale f a q h
keep_readings (r ∷ rs) p f a q h = keep_text p (join_with_byte 44 (map reading_text (r ∷ rs))) p.status f a q h

-- what an effect that changes the state of itself leaves; a reset drops the readings
abbrev KeepsEffect : Panel → Effect → Type 0
KeepsEffect p (Changes after) = IsKeeping p (after p)
KeepsEffect p Resets = ⊥
KeepsEffect p effect = IsKeeping p p

abbrev KeepsAction : Panel → Action → Type 0
KeepsAction p (AtOnce effect) = KeepsEffect p effect
KeepsAction p (BetweenScans effect) = KeepsEffect p effect
KeepsAction p (AfterScan effect) = KeepsEffect p effect

abbrev is_reset : Command → Bool
is_reset (Command.NoData NoData.Reset) = true
is_reset command = false

keeps_command : (p : Panel) (available : Bool) (command : Command) → is_reset command ≡ false → KeepsAction p (action_of available command)
keeps_command p available (Command.NoData NoData.Reset) n = absurd (cc (n))
keeps_command p available (Command.Continuous true) n = (refl, refl)
keeps_command p available (Command.Continuous false) n = (refl, refl)
keeps_command p available (Command.Relays RelayCommand.Close chans) n = (refl, refl)
keeps_command p available (Command.GroupQuery GroupQuery.Condition StatusGroup.Operation) n = (refl, refl)
keeps_command p available (Command.GroupQuery GroupQuery.Condition StatusGroup.Questionable) n = (refl, refl)
keeps_command p available (Command.GroupQuery GroupQuery.Enable group) n = (refl, refl)
keeps_command p available (Command.GroupQuery GroupQuery.PositiveTransition group) n = (refl, refl)
keeps_command p available (Command.GroupQuery GroupQuery.NegativeTransition group) n = (refl, refl)
keeps_command p available (Command.SlotQuery SlotQuery.Kind slot) n = (refl, refl)
keeps_command p available (Command.SlotQuery SlotQuery.Groups slot) n = (refl, refl)
keeps_command p available (Command.SlotQuery SlotQuery.State slot) n = (refl, refl)
keeps_command p available command n = (refl, refl)

keep_alone : (d : Effect) (p : Panel) (f : Bool) (a : SessionAnswer) (q : Panel) → KeepsEffect p d → StepAlone d p f a q → IsKeeping p q
keep_alone (TellsText text) p f a q k h = keep_text p (text p) p.status f a q h
keep_alone (TellsReadings readings) p f a q k h = keep_readings (readings p) p f a q h
keep_alone (ReadsOut text after) p f a q k h = keep_text p (text p.status) (after p.status) f a q h
keep_alone (SetsStatus after) p f a q k h = keep_done p (record p { status = after p.status }) f a q (refl, refl) h
keep_alone (SetsUp Fits error after) p f a q k h = keep_setting p (Fits p.settings) error (after p.settings) f a q h
keep_alone (ClosesListed chans) p f a q k h = keep_close p chans f a q h
keep_alone (OpensListed chans) p f a q k h = keep_open p chans f a q h
keep_alone (TellsHardware there text) p f a q k h = keep_hardware p (there p) (text p) f a q h
keep_alone (TellsSurety text) p f a q k h = keep_surety p (text p) f a q h
keep_alone (TellsListing listing) p f a q k h = keep_listing p listing f a q h
keep_alone (Changes after) p f a q k h = keep_done p (after p) f a q k h
keep_alone Resets p f a q k h = absurd k
keep_alone (RefusesWith error) p f a q k h = keep_refused p error f a q h
keep_alone IsOfMacros p f a q k h = keep_refused p UndefinedHeader f a q h
keep_alone Initiates p f a q k h = keep_refused p UndefinedHeader f a q h
keep_alone (Triggers happening error) p f a q k h = absurd h

past_readings : (c d : CageSeen) (scan : Option ScanSeen) (told : TakenSeen) → AdvancesPastFrom c scan told d → d.readings ≡ c.readings
past_readings c d None told h = absurd h
past_readings c d (Some at) told h = h.readings

pub keep_happens : (p : Panel) (happening : Happening) (f : Bool) (told : TakenSeen) (q : Panel) → Happens p happening f told q → IsKeeping p q
keep_happens p happening f SaysIgnored q h = keep_is p q h.2
keep_happens p happening f told q h = (ap (λ (x : Panel). x.sessions) h.2.1, past_readings p.cage q.cage p.cage.scan told h.1)

keep_effect : (d : Effect) (p : Panel) (f : Bool) (a : SessionAnswer) (w : Option WorkSeen) (q : Panel) → KeepsEffect p d → StepEffect d p f a w q
    → IsKeeping p q
keep_effect (Triggers happening error) p f a w q k h = keep_happens p happening f h.told q h.happens
keep_effect d p f a w q k h = keep_alone d p f a q k h.0

pub keep_held : (p : Panel) (ask : SessionAsk) (f : Bool) (a : SessionAnswer) (w : Option WorkSeen) (q : Panel) → StepHeld p ask f a w q → IsKeeping p q
keep_held p ask f (Hold back) None q h = keep_is p q h.2
keep_held p ask f a w q h = absurd h

keep_barred : (b : Bool) (d : Effect) (p : Panel) (f : Bool) (a : SessionAnswer) (w : Option WorkSeen) (q : Panel) → KeepsEffect p d
    → MatchBool b (StepRefused p SettingsConflict f a q × (w ≡ None)) (StepEffect d p f a w q) → IsKeeping p q
keep_barred true d p f a w q k h = keep_refused p SettingsConflict f a q h.0
keep_barred false d p f a w q k h = keep_effect d p f a w q k h

keep_waiting : (b : Bool) (d : Effect) (p : Panel) (ask : SessionAsk) (f : Bool) (a : SessionAnswer) (w : Option WorkSeen) (q : Panel) → KeepsEffect p d
    → MatchBool b (StepHeld p ask f a w q) (StepEffect d p f a w q) → IsKeeping p q
keep_waiting true d p ask f a w q k h = keep_held p ask f a w q h
keep_waiting false d p ask f a w q k h = keep_effect d p f a w q k h

keep_action : (x : Action) (p : Panel) (ask : SessionAsk) (f : Bool) (a : SessionAnswer) (w : Option WorkSeen) (q : Panel) → KeepsAction p x
    → StepAction x p ask f a w q → IsKeeping p q
keep_action (AtOnce d) p ask f a w q k h = keep_effect d p f a w q k h
keep_action (BetweenScans d) p ask f a w q k h = keep_barred (is_running p) d p f a w q k h
keep_action (AfterScan d) p ask f a w q k h = keep_waiting (is_running p) d p ask f a w q k h

-- what a command other than *RST leaves
pub keep_unit : (p : Panel) (sid : Sid) (command : Command) (available f : Bool) (a : SessionAnswer) (w : Option WorkSeen) (q : Panel)
    → is_reset command ≡ false → StepAction (action_of available command) p (Ask.Unit sid command available) f a w q → IsKeeping p q
keep_unit p sid command available f a w q n h =
    keep_action (action_of available command) p (Ask.Unit sid command available) f a w q (keeps_command p available command n) h

-- nobody joins or leaves by a command
pub unit_sessions : (p : Panel) (sid : Sid) (command : Command) (available f : Bool) (a : SessionAnswer) (w : Option WorkSeen) (q : Panel)
    → StepAction (action_of available command) p (Ask.Unit sid command available) f a w q → q.sessions ≡ p.sessions
unit_sessions p sid (Command.NoData NoData.Reset) available f (Done None) w q h = ap (λ (x : Panel). x.sessions) h.0.1
unit_sessions p sid (Command.NoData NoData.Reset) available f a w q h = absurd h.0
unit_sessions p sid command available f a w q h = (keep_unit p sid command available f a w q refl h).0

reads_unit : (p : Panel) (sid : Sid) (command : Command) (available f : Bool) (a : SessionAnswer) (w : Option WorkSeen) (q : Panel)
    → StepAction (action_of available command) p (Ask.Unit sid command available) f a w q
    → q.cage.readings ≡ readings_after (AskSession (Ask.Unit sid command available)) (SaysSession a w) p.cage.readings
reads_unit p sid (Command.NoData NoData.Reset) available f (Done None) w q h = ap (λ (x : Panel). x.cage.readings) h.0.1
reads_unit p sid (Command.NoData NoData.Reset) available f a w q h = absurd h.0
reads_unit p sid command available f a w q h = (keep_unit p sid command available f a w q refl h).1

-- ---- scans and seats

keep_snapshot : (p : Panel) (f : Bool) (a : SessionAnswer) (q : Panel) → StepSnapshot p f a q → IsKeeping p q
keep_snapshot p f (answers.Snapshot s number) q h = keep_is p q h.3
keep_snapshot p f (Refused OutOfMemory) q h = keep_is p q h.2
keep_snapshot p f (Refused e) q h = keep_is p q h.2
keep_snapshot p f a q h = absurd h

pub snapshot_sessions : (p : Panel) (f : Bool) (a : SessionAnswer) (q : Panel) → StepSnapshot p f a q → q.sessions ≡ p.sessions
snapshot_sessions p f a q h = (keep_snapshot p f a q h).0

reads_start : (p : Panel) (sid : Sid) (plan : Snapshot) (f : Bool) (a : SessionAnswer) (w : Option WorkSeen) (q : Panel) → StepStart p plan f a w q
    → q.cage.readings ≡ readings_after (AskSession (Ask.Start sid plan)) (SaysSession a w) p.cage.readings
reads_start p sid plan f (Done None) w q h = h.starts.3.readings
reads_start p sid plan f (Refused HardwareError) w q h = h.starts.3.readings
reads_start p sid plan f (Refused OutOfMemory) None q h = ap (λ (x : Panel). x.cage.readings) h.3
reads_start p sid plan f (Refused SettingsConflict) None q h = ap (λ (x : Panel). x.cage.readings) h.2
reads_start p sid plan f (Refused e) None q h = ap (λ (x : Panel). x.cage.readings) h.2
reads_start p sid plan f a w q h = absurd h

pub start_sessions : (p : Panel) (plan : Snapshot) (f : Bool) (a : SessionAnswer) (w : Option WorkSeen) (q : Panel) → StepStart p plan f a w q
    → q.sessions ≡ p.sessions
start_sessions p plan f (Done None) w q h = ap (λ (x : Panel). x.sessions) h.starts.4
start_sessions p plan f (Refused HardwareError) w q h = ap (λ (x : Panel). x.sessions) h.starts.4
start_sessions p plan f (Refused OutOfMemory) None q h = ap (λ (x : Panel). x.sessions) h.3
start_sessions p plan f (Refused SettingsConflict) None q h = ap (λ (x : Panel). x.sessions) h.2
start_sessions p plan f (Refused e) None q h = ap (λ (x : Panel). x.sessions) h.2
start_sessions p plan f a w q h = absurd h

served_readings : (p : Panel) (ask : SessionAsk) (f : Bool) (a : SessionAnswer) (q : Panel) → IsServed p ask f a q → q.cage.readings ≡ p.cage.readings
served_readings p ask f a q h = ap (λ (x : Panel). x.cage.readings) h.after

reads_joined : (p : Panel) (ask : SessionAsk) (f : Bool) (a : SessionAnswer) (w : Option WorkSeen) (q : Panel) → StepJoined p ask f a w q
    → q.cage.readings ≡ readings_after (AskSession ask) (SaysSession a w) p.cage.readings
reads_joined p (Ask.Fault sid e) f (Done None) None q h = ap (λ (x : Panel). x.cage.readings) h.1
reads_joined p (Ask.Fault sid e) f a None q h = served_readings p (Ask.Fault sid e) f a q h
reads_joined p (Ask.Unit sid command available) f a w q h = reads_unit p sid command available f a w q h
reads_joined p (Ask.Bus sid) f a w q h = (keep_happens p Bus f h.told q h.happens).1
reads_joined p (Ask.Snapshot sid) f a None q h = (keep_snapshot p f a q h).1
reads_joined p (Ask.Start sid plan) f a w q h = reads_start p sid plan f a w q h
reads_joined p (Ask.Attached sid) f a None q h = served_readings p (Ask.Attached sid) f a q h
reads_joined p (Ask.Leave sid) f a None q h = served_readings p (Ask.Leave sid) f a q h
reads_joined p (Ask.Size sid size) f a None q h = served_readings p (Ask.Size sid size) f a q h
reads_joined p (Ask.MaxSize sid) f a None q h = served_readings p (Ask.MaxSize sid) f a q h
reads_joined p (Ask.Clear sid) f a None q h = served_readings p (Ask.Clear sid) f a q h
reads_joined p (Ask.Cleared sid) f a None q h = served_readings p (Ask.Cleared sid) f a q h
reads_joined p (Ask.Lock sid key) f a None q h = served_readings p (Ask.Lock sid key) f a q h
reads_joined p (Ask.Release sid) f a None q h = served_readings p (Ask.Release sid) f a q h
reads_joined p (Ask.LockInfo sid) f a None q h = served_readings p (Ask.LockInfo sid) f a q h
reads_joined p Ask.Join f a None q h = served_readings p Ask.Join f a q h
reads_joined p (Ask.Attach number) f a None q h = served_readings p (Ask.Attach number) f a q h
reads_joined p ask f a w q h = absurd h

-- what is no event reads nothing
unread_unit : (sid : Sid) (command : Command) (available : Bool) (a : SessionAnswer) (w : Option WorkSeen) (old : List Reading) → IsSilent a
    → readings_after (AskSession (Ask.Unit sid command available)) (SaysSession a w) old ≡ old
unread_unit sid (Command.NoData NoData.Reset) available Stranger w old n = refl
unread_unit sid (Command.NoData NoData.Reset) available Broken w old n = refl
unread_unit sid (Command.NoData NoData.Reset) available (Hold back) w old n = refl
unread_unit sid (Command.NoData NoData.Reset) available (Worn back) w old n = refl
unread_unit sid (Command.NoData NoData.Reset) available a w old n = absurd n
unread_unit sid command available a w old n = refl

unread : (ask : SessionAsk) (a : SessionAnswer) (w : Option WorkSeen) (old : List Reading) → IsSilent a
    → readings_after (AskSession ask) (SaysSession a w) old ≡ old
unread (Ask.Unit sid command available) a w old n = unread_unit sid command available a w old n
unread (Ask.Start sid plan) Stranger w old n = refl
unread (Ask.Start sid plan) Broken w old n = refl
unread (Ask.Start sid plan) (Hold back) w old n = refl
unread (Ask.Start sid plan) (Worn back) w old n = refl
unread (Ask.Start sid plan) a w old n = absurd n
unread ask a w old n = refl

silent_reads : (p : Panel) (ask : SessionAsk) (a : SessionAnswer) (w : Option WorkSeen) (q : Panel) → IsSilent a → q ≡ p
    → q.cage.readings ≡ readings_after (AskSession ask) (SaysSession a w) p.cage.readings
silent_reads p ask a w q n e = ap (λ (x : Panel). x.cage.readings) e ∙ sym (unread ask a w p.cage.readings n)

reads_admitted : (now : Admission) (p : Panel) (ask : SessionAsk) (f : Bool) (a : SessionAnswer) (w : Option WorkSeen) (q : Panel)
    → StepAdmitted now p ask f a w q → q.cage.readings ≡ readings_after (AskSession ask) (SaysSession a w) p.cage.readings
reads_admitted Dropped p ask f Broken None q h = silent_reads p ask Broken None q tt h.1
reads_admitted Dropped p ask f a w q h = absurd h
reads_admitted ShutOut p ask f (Hold back) None q h = silent_reads p ask (Hold back) None q tt h.2
reads_admitted ShutOut p ask f a w q h = absurd h
reads_admitted Admitted p ask f a w q h = reads_joined p ask f a w q h

reads_join : (p : Panel) (f : Bool) (a : SessionAnswer) (w : Option WorkSeen) (q : Panel) → StepJoin p f a w q → q.cage.readings ≡ p.cage.readings
reads_join p f (Joined sid) None q h = ap (λ (x : Panel). x.cage.readings) h.3
reads_join p f Full None q h = ap (λ (x : Panel). x.cage.readings) h.2
reads_join p f a w q h = absurd h

reads_attach : (p : Panel) (number : ℕ) (f : Bool) (a : SessionAnswer) (w : Option WorkSeen) (q : Panel) → StepAttach p number f a w q
    → q.cage.readings ≡ p.cage.readings
reads_attach p number f (Joined sid) None q h = ap (λ (x : Panel). x.cage.readings) h.2
reads_attach p number f Stranger None q h = ap (λ (x : Panel). x.cage.readings) h.2
reads_attach p number f a w q h = absurd h

reads_new : (p : Panel) (ask : SessionAsk) (f : Bool) (a : SessionAnswer) (w : Option WorkSeen) (q : Panel) → StepNew p ask f a w q
    → q.cage.readings ≡ readings_after (AskSession ask) (SaysSession a w) p.cage.readings
reads_new p Ask.Join f a w q h = reads_join p f a w q h
reads_new p (Ask.Attach number) f a w q h = reads_attach p number f a w q h
reads_new p ask f a w q h = absurd h

reads_session : (o : Option Sid) (p : Panel) (ask : SessionAsk) (f : Bool) (a : SessionAnswer) (w : Option WorkSeen) (q : Panel)
    → StepSession o p ask f a w q → q.cage.readings ≡ readings_after (AskSession ask) (SaysSession a w) p.cage.readings
reads_session None p ask f a w q h = reads_new p ask f a w q h
reads_session (Some sid) p ask f Stranger None q h = silent_reads p ask Stranger None q tt h.2
reads_session (Some sid) p ask f a w q h = reads_admitted (admission p sid ask) p ask f a w q h.1

-- ---- meters

counts_readings : (c d : CageSeen) (outcome : Result Reading CardFault) (told : TakenSeen) → Counts c outcome told d
    → d.readings ≡ readings_with c.readings outcome
counts_readings c d (Ok r) told h = past_readings (with_reading c r) d c.scan told h
counts_readings c d (Err e) told h = ap (λ (x : CageSeen). x.readings) h.1

reads_returns : (p : Panel) (done : FinishedSeen) (f : Bool) (told : TakenSeen) (q : Panel) → Returns p done f told q
    → q.cage.readings ≡ readings_after (AskFinished done) (outside_told told) p.cage.readings
reads_returns p done f SaysIgnored q h = ap (λ (x : Panel). x.cage.readings) h.2
reads_returns p done f told q h = counts_readings (with_back p.cage done) q.cage done.outcome told h.1

reads_finished : (p : Panel) (done : FinishedSeen) (f : Bool) (a : AnswerSeen) (q : Panel) → StepFinished p done f a q
    → q.cage.readings ≡ readings_after (AskFinished done) a p.cage.readings
reads_finished p done f SaysBack q h = ap (λ (x : Panel). x.cage.readings) h.2
reads_finished p done f a q h =
    reads_returns p done f h.told q h.returns ∙ ap (λ (x : AnswerSeen). readings_after (AskFinished done) x p.cage.readings) (sym h.answer_is)

pub returns_sessions : (p : Panel) (done : FinishedSeen) (f : Bool) (told : TakenSeen) (q : Panel) → Returns p done f told q → q.sessions ≡ p.sessions
returns_sessions p done f SaysIgnored q h = ap (λ (x : Panel). x.sessions) h.2
returns_sessions p done f told q h = ap (λ (x : Panel). x.sessions) h.2.1

-- ---- events

reads_acts : (p : Panel) (ask : AskSeen) (f : Bool) (a : AnswerSeen) (q : Panel) → Acts p ask f a q
    → q.cage.readings ≡ readings_after ask a p.cage.readings
reads_acts p (AskSession ask) f (SaysSession a w) q h = reads_session (asker_of ask) p ask f a w q h
reads_acts p (AskInstall slot card) f SaysInstalled q h = ap (λ (x : Panel). x.cage.readings) h.4
reads_acts p (AskInstall slot card) f (SaysNotInstalled refusal) q h = ap (λ (x : Panel). x.cage.readings) h.2
reads_acts p (AskEject slot) f (SaysEjected card) q h = ap (λ (x : Panel). x.cage.readings) h.3 ∙ stopped_readings p.cage
reads_acts p (AskEject slot) f (SaysNotEjected refusal) q h = ap (λ (x : Panel). x.cage.readings) h.2
reads_acts p AskExternal f a q h = (keep_happens p External f h.told q h.happens).1
reads_acts p (AskElapsed ticket) f a q h = (keep_happens p (Elapsed ticket) f h.told q h.happens).1
reads_acts p (AskFinished done) f a q h = reads_finished p done f a q h
reads_acts p ask f a q h = absurd h

unread_worn : (ask : AskSeen) (a : AnswerSeen) (old : List Reading) → IsWorn ask a → readings_after ask a old ≡ old
unread_worn (AskSession ask) (SaysSession (Worn back) None) old h = unread ask (Worn back) None old tt
unread_worn (AskSession ask) a old h = absurd h
unread_worn (AskInstall slot card) a old h = refl
unread_worn (AskEject slot) a old h = refl
unread_worn AskExternal a old h = refl
unread_worn (AskElapsed ticket) a old h = refl
unread_worn (AskFinished done) SaysWorn old h = refl
unread_worn (AskFinished done) a old h = absurd h

reads_either : (b : Bool) (p : Panel) (ask : AskSeen) (f : Bool) (a : AnswerSeen) (q : Panel)
    → MatchBool b (IsUnnumbered p ask f a q) (IsEvent p ask f a q) → q.cage.readings ≡ readings_after ask a p.cage.readings
reads_either true p ask f a q h = ap (λ (x : Panel). x.cage.readings) h.same ∙ sym (unread_worn ask a p.cage.readings h.worn)
reads_either false p ask f a q h =
    ap (λ (c : CageSeen). c.readings) (ap (λ (x : Panel). x.cage) h.after ∙ concluded_scan a h.done) ∙ reads_acts p ask f a h.done h.acts

-- *RST and a scan that begins drop the readings, the return of a meter that the scan takes adds one, and nothing else changes them
pub reads_step : (p : Panel) (ask : AskSeen) (f : Bool) (a : AnswerSeen) (q : Panel) → Step p ask f a q
    → q.cage.readings ≡ readings_after ask a p.cage.readings
reads_step p ask f a q h = reads_either ((p.events == last_number) && not (acts_unnumbered ask)) p ask f a q h
