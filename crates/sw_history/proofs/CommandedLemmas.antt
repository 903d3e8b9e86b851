-- What a command leaves as it was: seats and locks, and a scan that runs, unless it may end it.
use Rattle.std.proofs.Common.{◌≡◌, ℕ, Bool, true, false, true≢false, List, [], ◌∷◌, Option, None, Some}
use Rattle.std.proofs.Common.{refl, ap, sym, subst, ◌∙◌, map}
use Rattle.std.specs.Prelude.{MatchBool}
use Rattle.std.specs.List.{join_with_byte}
use Rattle.sw_base.specs.Reading.{reading_text}
use Rattle.sw_base.specs.Layout.{Channel}
use Rattle.sw_base.specs.declared.reading.Reading.{Reading}
use Rattle.sw_base.specs.declared.error.ScpiError.{ScpiError}
use Rattle.sw_base.specs.declared.error.ScpiError.TheVariants.{UndefinedHeader, DataCorruptOrStale, OutOfMemory, HardwareMissing}
use Rattle.sw_base.specs.declared.error.ScpiError.TheVariants.{SettingsConflict, HardwareError}
use Rattle.sw_lex.specs.declared.command.Command.{Command}
use Rattle.sw_base.specs.declared.terms.StatusGroup.{StatusGroup}
use Rattle.sw_lex.specs.declared.command.GroupQuery.{GroupQuery}
use Rattle.sw_lex.specs.declared.command.SlotQuery.{SlotQuery}
use Rattle.sw_lex.specs.declared.command.NoData.{NoData}
use Rattle.sw_lex.specs.declared.command.RelayCommand.{RelayCommand}
use Rattle.sw_verify.specs.declared.setup.Setup.{Setup}
use Rattle.sw_status.specs.StatusModel.{StatusSeen}
use Rattle.sw_cage.specs.TakenSeen.{TakenSeen, SaysIgnored, SaysWaits, SaysPause, SaysJob, SaysEnded, SaysFault}
use Rattle.sw_cage.specs.declared.taken.Happening.{Happening}
use Rattle.sw_core.specs.declared.ask.SessionAsk.{SessionAsk}
use Rattle.sw_core.specs.declared.ask.SessionAnswer.{SessionAnswer}
use Rattle.sw_core.specs.declared.ask.SessionAnswer.TheVariants.{Done, Refused, Hold}
use Rattle.sw_core.specs.Panel.{Panel, is_running}
use Rattle.sw_core.specs.Action.{Effect, TellsText, TellsReadings, ReadsOut, SetsStatus, SetsUp, ClosesListed, OpensListed, TellsHardware, TellsSurety, TellsListing}
use Rattle.sw_core.specs.Action.{Changes}
use Rattle.sw_core.specs.Action.{Resets, reset, aborted, Triggers, RefusesWith, IsOfMacros, Initiates, Action, AtOnce, BetweenScans, AfterScan, action_of}
use Rattle.sw_core.specs.Step.{StepClose, StepOpen, StepHardware, StepSurety, StepListing, StepText, StepDone, StepSetting, StepRefused, StepReadings, StepAlone}
use Rattle.sw_core.specs.Step.{Happens, StepEffect, StepHeld, StepAction}
use Rattle.sw_core.specs.Seen.{WorkSeen}
use Rattle.sw_history.specs.Waking.{may_end}

-- ---- commands

-- nobody's seat or lock is another, and a scan that runs runs on, unless it may end
pub record Leaves (ends : Bool) (p q : Panel) : Type 0 where
  pub seats : q.sessions ≡ p.sessions
  pub scan : ends ≡ false → is_running p ≡ true → is_running q ≡ true

leaves_as : {ends : Bool} (p q r : Panel) → q ≡ r → Leaves ends p r → Leaves ends p q
leaves_as {ends} p q r e s = subst (λ (x : Panel). Leaves ends p x) (sym e) s

-- with this scan and these seats
leaves_by : {ends : Bool} (p q : Panel) → q.sessions ≡ p.sessions → is_running q ≡ is_running p → Leaves ends p q
leaves_by p q s r = record { seats = s; scan = λ n i. r ∙ i }

pub leaves_none : {ends : Bool} (p q : Panel) → q ≡ p → Leaves ends p q
leaves_none p q e = leaves_by p q (ap (λ (x : Panel). x.sessions) e) (ap is_running e)

-- only the seats are looked at where the scan may end
leaves_ending : {ends : Bool} (p q : Panel) → q.sessions ≡ p.sessions → ends ≡ true → Leaves ends p q
leaves_ending p q s e = record { seats = s; scan = λ n i. absurd (true≢false (sym e ∙ n)) }

abbrev pub LeavesEffect : Bool → Panel → Effect → Type 0
LeavesEffect ends p (Changes after) = Leaves ends p (after p)
LeavesEffect ends p Resets = ends ≡ true
LeavesEffect ends p (Triggers happening error) = ends ≡ true
LeavesEffect ends p effect = Unit {0}

abbrev pub LeavesAction : Bool → Panel → Action → Type 0
LeavesAction ends p (AtOnce effect) = LeavesEffect ends p effect
LeavesAction ends p (BetweenScans effect) = LeavesEffect ends p effect
LeavesAction ends p (AfterScan effect) = LeavesEffect ends p effect

leaves_command : (p : Panel) (available : Bool) (command : Command) → LeavesAction (may_end command) p (action_of available command)
leaves_command p available (Command.NoData NoData.Reset) = refl
leaves_command p available (Command.NoData NoData.ClearStatus) = record { seats = refl; scan = λ n i. i }
leaves_command p available (Command.NoData NoData.OperationComplete) = record { seats = refl; scan = λ n i. i }
leaves_command p available (Command.NoData NoData.OperationCompleteQuery) = tt
leaves_command p available (Command.NoData NoData.Wait) = record { seats = refl; scan = λ n i. i }
leaves_command p available (Command.NoData NoData.Trigger) = refl
leaves_command p available (Command.NoData NoData.Abort) = leaves_ending p (aborted p) refl refl
leaves_command p available (Command.NoData NoData.Initiate) = tt
leaves_command p available (Command.NoData NoData.OpenAll) = record { seats = refl; scan = λ n i. i }
leaves_command p available (Command.NoData NoData.Preset) = tt
leaves_command p available (Command.NoData NoData.Fetch) = tt
leaves_command p available (Command.NoData NoData.Read) = tt
leaves_command p available (Command.Query query) = tt
leaves_command p available (Command.LayerQuery query layer) = tt
leaves_command p available (Command.GroupQuery GroupQuery.Condition StatusGroup.Operation) = tt
leaves_command p available (Command.GroupQuery GroupQuery.Condition StatusGroup.Questionable) = tt
leaves_command p available (Command.GroupQuery GroupQuery.Enable group) = tt
leaves_command p available (Command.GroupQuery GroupQuery.PositiveTransition group) = tt
leaves_command p available (Command.GroupQuery GroupQuery.NegativeTransition group) = tt
leaves_command p available (Command.SlotQuery SlotQuery.Kind slot) = tt
leaves_command p available (Command.SlotQuery SlotQuery.Groups slot) = tt
leaves_command p available (Command.SlotQuery SlotQuery.State slot) = tt
leaves_command p available (Command.DestructiveQuery read) = tt
leaves_command p available (Command.Signal layer) = refl
leaves_command p available (Command.Continuous true) = tt
leaves_command p available (Command.Continuous false) = record { seats = refl; scan = λ n i. i }
leaves_command p available (Command.Relays RelayCommand.Close chans) = tt
leaves_command p available (Command.Relays RelayCommand.CloseQuery chans) = tt
leaves_command p available (Command.Relays RelayCommand.CloseCheck chans) = tt
leaves_command p available (Command.Relays RelayCommand.Open chans) = tt
leaves_command p available (Command.Relays RelayCommand.OpenQuery chans) = tt
leaves_command p available (Command.ListingCheck listing) = tt
leaves_command p available (Command.Set setting) = tt
leaves_command p available (Command.SetStatus setting) = tt
leaves_command p available (Command.Macros ask) = tt
leaves_command p available (Command.Macro ask) = tt
leaves_command p available (Command.ScanReadings number count) = tt

leaves_close : {ends : Bool} (p : Panel) (chans : List Channel) (f : Bool) (a : SessionAnswer) (q : Panel) → StepClose p chans f a q → Leaves ends p q
leaves_close p chans f (Done None) q h = leaves_by p q (ap (λ (x : Panel). x.sessions) h.3) (ap is_running h.3)
leaves_close p chans f (Refused HardwareMissing) q h = leaves_by p q (ap (λ (x : Panel). x.sessions) h.2) (ap is_running h.2)
leaves_close p chans f (Refused SettingsConflict) q h = leaves_by p q (ap (λ (x : Panel). x.sessions) h.2) (ap is_running h.2)
leaves_close p chans f (Refused HardwareError) q h = leaves_by p q (ap (λ (x : Panel). x.sessions) h.2.1) (ap is_running h.2.1)
leaves_close p chans f a q h = absurd h

leaves_open : {ends : Bool} (p : Panel) (chans : List Channel) (f : Bool) (a : SessionAnswer) (q : Panel) → StepOpen p chans f a q → Leaves ends p q
leaves_open p chans f (Done None) q h = leaves_by p q (ap (λ (x : Panel). x.sessions) h.3) (ap is_running h.3)
leaves_open p chans f (Refused HardwareMissing) q h = leaves_by p q (ap (λ (x : Panel). x.sessions) h.2) (ap is_running h.2)
leaves_open p chans f (Refused HardwareError) q h = leaves_by p q (ap (λ (x : Panel). x.sessions) h.2.1) (ap is_running h.2.1)
leaves_open p chans f a q h = absurd h

leaves_hardware : {ends : Bool} (p : Panel) (there : Bool) (text : List ℕ) (f : Bool) (a : SessionAnswer) (q : Panel) → StepHardware p there text f a q →
    Leaves ends p q
leaves_hardware p there text f (Done (Some t)) q h = leaves_by p q (ap (λ (x : Panel). x.sessions) h.3) (ap is_running h.3)
leaves_hardware p there text f (Refused HardwareMissing) q h = leaves_by p q (ap (λ (x : Panel). x.sessions) h.2) (ap is_running h.2)
leaves_hardware p there text f (Refused OutOfMemory) q h = leaves_by p q (ap (λ (x : Panel). x.sessions) h.2) (ap is_running h.2)
leaves_hardware p there text f a q h = absurd h

leaves_surety : {ends : Bool} (p : Panel) (text : Bool → List ℕ) (f : Bool) (a : SessionAnswer) (q : Panel) → StepSurety p text f a q → Leaves ends p q
leaves_surety p text f (Done (Some t)) q h = leaves_by p q (ap (λ (x : Panel). x.sessions) h.2) (ap is_running h.2)
leaves_surety p text f a q h = absurd h

leaves_listing : {ends : Bool} (p : Panel) (listing : List ℕ) (f : Bool) (a : SessionAnswer) (q : Panel) → StepListing p listing f a q → Leaves ends p q
leaves_listing p listing f (Done (Some t)) q h = leaves_by p q (ap (λ (x : Panel). x.sessions) h.2) (ap is_running h.2)
leaves_listing p listing f (Refused OutOfMemory) q h = leaves_by p q (ap (λ (x : Panel). x.sessions) h.1) (ap is_running h.1)
leaves_listing p listing f a q h = absurd h

leaves_text : {ends : Bool} (p : Panel) (text : List ℕ) (status : StatusSeen) (f : Bool) (a : SessionAnswer) (q : Panel) → StepText p text status f a q → Leaves
    ends p q
leaves_text p text status f (Done (Some t)) q h = leaves_by p q (ap (λ (x : Panel). x.sessions) h.2) (ap is_running h.2)
leaves_text p text status f (Refused OutOfMemory) q h = leaves_by p q (ap (λ (x : Panel). x.sessions) h.1) (ap is_running h.1)
leaves_text p text status f a q h = absurd h

leaves_done : {ends : Bool} (p after : Panel) (f : Bool) (a : SessionAnswer) (q : Panel) → Leaves ends p after → StepDone after f a q → Leaves ends p q
leaves_done p after f (Done None) q s h = leaves_as p q after h.1 s
leaves_done p after f a q s h = absurd h

leaves_setting : {ends : Bool} (p : Panel) (Fits : Type 0) (error : ScpiError) (setup : Setup) (f : Bool) (a : SessionAnswer) (q : Panel)
    → StepSetting p Fits error setup f a q → Leaves ends p q
leaves_setting p Fits error setup f (Done None) q h = leaves_by p q (ap (λ (x : Panel). x.sessions) h.2) (ap is_running h.2)
leaves_setting p Fits error setup f (Refused e) q h = leaves_by p q (ap (λ (x : Panel). x.sessions) h.3) (ap is_running h.3)
leaves_setting p Fits error setup f a q h = absurd h

leaves_refused : {ends : Bool} (p : Panel) (error : ScpiError) (f : Bool) (a : SessionAnswer) (q : Panel) → StepRefused p error f a q → Leaves ends p q
leaves_refused p error f (Refused e) q h = leaves_by p q (ap (λ (x : Panel). x.sessions) h.2) (ap is_running h.2)
leaves_refused p error f a q h = absurd h

leaves_readings : {ends : Bool} (l : List Reading) (p : Panel) (f : Bool) (a : SessionAnswer) (q : Panel) → StepReadings l p f a q → Leaves ends p q
leaves_readings [] p f a q h = leaves_refused p DataCorruptOrStale f a q h
leaves_readings (r ∷ rs) p f a q h = leaves_text p (join_with_byte 44 (map reading_text (r ∷ rs))) p.status f a q h

leaves_alone : {ends : Bool} (d : Effect) (p : Panel) (f : Bool) (a : SessionAnswer) (q : Panel) → LeavesEffect ends p d → StepAlone d p f a q → Leaves ends p q
leaves_alone (TellsText text) p f a q n h = leaves_text p (text p) p.status f a q h
leaves_alone (TellsReadings readings) p f a q n h = leaves_readings (readings p) p f a q h
leaves_alone (ReadsOut text after) p f a q n h = leaves_text p (text p.status) (after p.status) f a q h
leaves_alone (SetsStatus after) p f a q n h = leaves_done p (record p { status = after p.status }) f a q (record { seats = refl; scan = λ e i. i }) h
leaves_alone (SetsUp Fits error after) p f a q n h = leaves_setting p (Fits p.settings) error (after p.settings) f a q h
leaves_alone (ClosesListed chans) p f a q n h = leaves_close p chans f a q h
leaves_alone (OpensListed chans) p f a q n h = leaves_open p chans f a q h
leaves_alone (TellsHardware there text) p f a q n h = leaves_hardware p (there p) (text p) f a q h
leaves_alone (TellsSurety text) p f a q n h = leaves_surety p (text p) f a q h
leaves_alone (TellsListing listing) p f a q n h = leaves_listing p listing f a q h
leaves_alone (Changes after) p f a q n h = leaves_done p (after p) f a q n h
leaves_alone Resets p f a q n h = leaves_done p (reset p) f a q (leaves_ending p (reset p) refl n) h
leaves_alone (RefusesWith error) p f a q n h = leaves_refused p error f a q h
leaves_alone IsOfMacros p f a q n h = leaves_refused p UndefinedHeader f a q h
leaves_alone Initiates p f a q n h = leaves_refused p UndefinedHeader f a q h
leaves_alone (Triggers happening error) p f a q n h = absurd h

-- a happening that is offered moves nothing but the scan
pub happens_seats : (p : Panel) (happening : Happening) (f : Bool) (told : TakenSeen) (q : Panel) → Happens p happening f told q → q.sessions ≡ p.sessions
happens_seats p happening f SaysIgnored q h = ap (λ (x : Panel). x.sessions) h.2
happens_seats p happening f SaysWaits q h = ap (λ (x : Panel). x.sessions) h.2.1
happens_seats p happening f (SaysPause t u) q h = ap (λ (x : Panel). x.sessions) h.2.1
happens_seats p happening f (SaysJob job) q h = ap (λ (x : Panel). x.sessions) h.2.1
happens_seats p happening f SaysEnded q h = ap (λ (x : Panel). x.sessions) h.2.1
happens_seats p happening f SaysFault q h = ap (λ (x : Panel). x.sessions) h.2.1

leaves_effect : {ends : Bool} (d : Effect) (p : Panel) (f : Bool) (a : SessionAnswer) (w : Option WorkSeen) (q : Panel) → LeavesEffect ends p d → StepEffect d p
    f a w q
    → Leaves ends p q
leaves_effect (Triggers happening error) p f a w q n h = leaves_ending p q (happens_seats p happening f h.told q h.happens) n
leaves_effect d p f a w q n h = leaves_alone d p f a q n h.0

leaves_held : {ends : Bool} (p : Panel) (ask : SessionAsk) (f : Bool) (a : SessionAnswer) (w : Option WorkSeen) (q : Panel) → StepHeld p ask f a w q → Leaves
    ends p q
leaves_held p ask f (Hold back) None q h = leaves_by p q (ap (λ (x : Panel). x.sessions) h.2) (ap is_running h.2)
leaves_held p ask f a w q h = absurd h

leaves_barred : {ends : Bool} (b : Bool) (d : Effect) (p : Panel) (f : Bool) (a : SessionAnswer) (w : Option WorkSeen) (q : Panel) → LeavesEffect ends p d
    → MatchBool b (StepRefused p SettingsConflict f a q × (w ≡ None)) (StepEffect d p f a w q) → Leaves ends p q
leaves_barred true d p f a w q n h = leaves_refused p SettingsConflict f a q h.0
leaves_barred false d p f a w q n h = leaves_effect d p f a w q n h

leaves_waiting : {ends : Bool} (b : Bool) (d : Effect) (p : Panel) (ask : SessionAsk) (f : Bool) (a : SessionAnswer) (w : Option WorkSeen) (q : Panel) →
    LeavesEffect ends p d
    → MatchBool b (StepHeld p ask f a w q) (StepEffect d p f a w q) → Leaves ends p q
leaves_waiting true d p ask f a w q n h = leaves_held p ask f a w q h
leaves_waiting false d p ask f a w q n h = leaves_effect d p f a w q n h

leaves_action : {ends : Bool} (x : Action) (p : Panel) (ask : SessionAsk) (f : Bool) (a : SessionAnswer) (w : Option WorkSeen) (q : Panel) → LeavesAction ends p
    x
    → StepAction x p ask f a w q → Leaves ends p q
leaves_action (AtOnce d) p ask f a w q n h = leaves_effect d p f a w q n h
leaves_action (BetweenScans d) p ask f a w q n h = leaves_barred (is_running p) d p f a w q n h
leaves_action (AfterScan d) p ask f a w q n h = leaves_waiting (is_running p) d p ask f a w q n h

-- a unit's step leaves seats and locks, and a scan that it may not end
pub leaves_unit : (available : Bool) (command : Command) (p : Panel) (ask : SessionAsk) (f : Bool) (a : SessionAnswer) (w : Option WorkSeen) (q : Panel)
    → StepAction (action_of available command) p ask f a w q → Leaves (may_end command) p q
leaves_unit available command p ask f a w q h = leaves_action (action_of available command) p ask f a w q (leaves_command p available command) h
