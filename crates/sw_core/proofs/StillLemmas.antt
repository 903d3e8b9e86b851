-- What a command does to a scan that runs: nothing, or it stops it.
use Rattle.std.proofs.Common.{◌≡◌, ℕ, Bool, true, false, List, [], ◌∷◌, Option, None, Some}
use Rattle.std.proofs.Common.{◌⊎◌, inl, inr, refl, ap, sym, subst, ◌∙◌, map}
use Rattle.std.specs.List.{join_with_byte}
use Rattle.sw_base.specs.Reading.{reading_text}
use Rattle.sw_base.specs.Layout.{Channel}
use Rattle.sw_base.specs.declared.reading.Reading.{Reading}
use Rattle.sw_base.specs.declared.error.ScpiError.{ScpiError}
use Rattle.sw_base.specs.declared.error.ScpiError.TheVariants.{UndefinedHeader, DataCorruptOrStale, OutOfMemory, HardwareMissing}
use Rattle.sw_base.specs.declared.error.ScpiError.TheVariants.{SettingsConflict, HardwareError}
use Rattle.sw_base.specs.declared.terms.LayerName.TheVariants as layer_name
use Rattle.sw_lex.specs.declared.command.Command.{Command}
use Rattle.sw_base.specs.declared.terms.StatusGroup.{StatusGroup}
use Rattle.sw_lex.specs.declared.command.GroupQuery.{GroupQuery}
use Rattle.sw_lex.specs.declared.command.SlotQuery.{SlotQuery}
use Rattle.sw_lex.specs.declared.command.NoData.{NoData}
use Rattle.sw_lex.specs.declared.command.RelayCommand.{RelayCommand}
use Rattle.sw_verify.specs.declared.setup.Setup.{Setup}
use Rattle.sw_status.specs.StatusModel.{StatusSeen}
use Rattle.sw_verify.specs.Sound.{effect}
use Rattle.sw_cage.specs.Cage.{CageSeen}
use Rattle.sw_core.specs.declared.ask.Sid.{Sid}
use Rattle.sw_core.specs.declared.ask.SessionAsk.{SessionAsk}
use Rattle.sw_core.specs.declared.ask.SessionAsk.TheVariants as Ask
use Rattle.sw_core.specs.declared.ask.SessionAnswer.{SessionAnswer}
use Rattle.sw_core.specs.declared.ask.SessionAnswer.TheVariants.{Done, Refused}
use Rattle.sw_core.specs.Panel.{Panel, is_running}
use Rattle.sw_core.specs.Action.{Effect, TellsText, TellsReadings, ReadsOut, SetsStatus, SetsUp, ClosesListed, OpensListed, TellsHardware, TellsSurety, TellsListing}
use Rattle.sw_core.specs.Action.{Changes}
use Rattle.sw_core.specs.Action.{Resets, reset, Triggers, RefusesWith, IsOfMacros, Initiates, Action, AtOnce, BetweenScans, AfterScan, action_of}
use Rattle.sw_core.specs.Step.{StepClose, StepOpen, StepHardware, StepSurety, StepListing, StepText, StepDone, StepSetting, StepRefused, StepReadings, StepAlone}
use Rattle.sw_core.specs.Taken.{went_on}
use Rattle.sw_core.specs.Ends.{breaks_off}
use Rattle.sw_core.specs.Seen.{AskSeen, AskSession, AnswerSeen, SaysSession}
use Rattle.sw_cage.proofs.SlotChangeLemmas.{all_open_closed}
use Rattle.sw_core.proofs.HarmlessLemmas.{none_of}
use Rattle.sw_core.proofs.CourseLemmas.{same_rack}
use Rattle.sw_core.proofs.AdvancingLemmas.{Moves, move_same, IsIdle, IsCut, move_idle, move_cut}

-- ---- commands

-- A command leaves the cage as it is, or no scan ran and none does, or it stops what runs.
abbrev pub IsStill : Bool → Panel → Panel → Type 0
IsStill off p q = (q.cage ≡ p.cage) ⊎ (IsIdle p.cage q.cage ⊎ IsCut off p.cage q.cage)

pub move_still : (ask : AskSeen) (a : AnswerSeen) (p q : Panel) → IsStill (breaks_off ask a) p q → Moves ask a p 0 q
move_still ask a p q (inl e) =
    move_same ask a p q (ap (λ (x : CageSeen). x.scan) e) (same_rack p.cage q.cage (ap (λ (x : CageSeen). x.cards) e)) (ap (λ (x : CageSeen). x.readings) e)
move_still ask a p q (inr (inl e)) = move_idle ask a p q e
move_still ask a p q (inr (inr e)) = move_cut ask a p q e

pub still_as : {off : Bool} (p q : Panel) → q ≡ p → IsStill off p q
still_as p q e = inl (ap (λ (x : Panel). x.cage) e)

-- no scan ran, and none does
still_idle : {off : Bool} (p q : Panel) → p.cage.scan ≡ None → q.cage.scan ≡ p.cage.scan → q.cage.readings ≡ p.cage.readings → IsStill off p q
still_idle p q i e r = inr (inl (i, e ∙ i, r))

-- a happening that is refused is no card's failure
abbrev pub IsStillEffect : Bool → Panel → Effect → Type 0
IsStillEffect off p (TellsText text) = Unit {0}
IsStillEffect off p (TellsReadings readings) = Unit {0}
IsStillEffect off p (ReadsOut text after) = Unit {0}
IsStillEffect off p (SetsStatus after) = Unit {0}
IsStillEffect off p (SetsUp Fits error after) = Unit {0}
IsStillEffect off p (ClosesListed chans) = p.cage.scan ≡ None
IsStillEffect off p (OpensListed chans) = p.cage.scan ≡ None
IsStillEffect off p (TellsHardware there text) = Unit {0}
IsStillEffect off p (TellsSurety text) = Unit {0}
IsStillEffect off p (TellsListing listing) = Unit {0}
IsStillEffect off p (Changes after) = IsStill off p (after p)
IsStillEffect off p Resets = off ≡ true
IsStillEffect off p (Triggers happening error) = went_on (Refused error) ≡ 0
IsStillEffect off p (RefusesWith error) = Unit {0}
IsStillEffect off p IsOfMacros = Unit {0}
IsStillEffect off p Initiates = Unit {0}

abbrev pub IsStillAction : Bool → Panel → Action → Type 0
IsStillAction off p (AtOnce effect) = IsStillEffect off p effect
IsStillAction off p (BetweenScans effect) = is_running p ≡ false → IsStillEffect off p effect
IsStillAction off p (AfterScan effect) = IsStillEffect off p effect

-- what a unit breaks off where it is done
abbrev pub off_done : Sid → Bool → Command → Bool
off_done sid available command = breaks_off (AskSession (Ask.Unit sid command available)) (SaysSession (Done None) None)

pub still_command : (sid : Sid) (p : Panel) (available : Bool) (command : Command)
    → IsStillAction (off_done sid available command) p (action_of available command)
still_command sid p available (Command.NoData NoData.Reset) = refl
still_command sid p available (Command.NoData NoData.ClearStatus) = inl refl
still_command sid p available (Command.NoData NoData.OperationComplete) = inl refl
still_command sid p available (Command.NoData NoData.OperationCompleteQuery) = tt
still_command sid p available (Command.NoData NoData.Wait) = inl refl
still_command sid p available (Command.NoData NoData.Trigger) = refl
still_command sid p available (Command.NoData NoData.Abort) = inr (inr (refl, refl, all_open_closed p.cage.cards, inl refl))
still_command sid p available (Command.NoData NoData.Initiate) = tt
still_command sid p available (Command.NoData NoData.OpenAll) = λ i. inr (inl (none_of p i, none_of p i, refl))
still_command sid p available (Command.NoData NoData.Preset) = tt
still_command sid p available (Command.NoData NoData.Fetch) = tt
still_command sid p available (Command.NoData NoData.Read) = tt
still_command sid p available (Command.Query query) = tt
still_command sid p available (Command.LayerQuery query layer) = tt
still_command sid p available (Command.GroupQuery GroupQuery.Condition StatusGroup.Operation) = tt
still_command sid p available (Command.GroupQuery GroupQuery.Condition StatusGroup.Questionable) = tt
still_command sid p available (Command.GroupQuery GroupQuery.Enable group) = tt
still_command sid p available (Command.GroupQuery GroupQuery.PositiveTransition group) = tt
still_command sid p available (Command.GroupQuery GroupQuery.NegativeTransition group) = tt
still_command sid p available (Command.SlotQuery SlotQuery.Kind slot) = tt
still_command sid p available (Command.SlotQuery SlotQuery.Groups slot) = tt
still_command sid p available (Command.SlotQuery SlotQuery.State slot) = tt
still_command sid p available (Command.DestructiveQuery read) = tt
still_command sid p available (Command.Signal layer_name.Trigger) = refl
still_command sid p available (Command.Signal (layer_name.Arm arm)) = refl
still_command sid p available (Command.Continuous true) = tt
still_command sid p available (Command.Continuous false) = inl refl
still_command sid p available (Command.Relays RelayCommand.Close chans) = λ i. none_of p i
still_command sid p available (Command.Relays RelayCommand.CloseQuery chans) = tt
still_command sid p available (Command.Relays RelayCommand.CloseCheck chans) = tt
still_command sid p available (Command.Relays RelayCommand.Open chans) = λ i. none_of p i
still_command sid p available (Command.Relays RelayCommand.OpenQuery chans) = tt
still_command sid p available (Command.ListingCheck listing) = tt
still_command sid p available (Command.Set setting) = λ i. tt
still_command sid p available (Command.SetStatus setting) = tt
still_command sid p available (Command.Macros ask) = tt
still_command sid p available (Command.Macro ask) = tt
still_command sid p available (Command.ScanReadings number count) = tt

still_close : {off : Bool} (p : Panel) (chans : List Channel) (f : Bool) (a : SessionAnswer) (q : Panel) → p.cage.scan ≡ None → StepClose p chans f a q
    → IsStill off p q
still_close p chans f (Done None) q i h = still_idle p q i (ap (λ (x : Panel). x.cage.scan) h.3) (ap (λ (x : Panel). x.cage.readings) h.3)
still_close p chans f (Refused HardwareMissing) q i h = still_as p q h.2
still_close p chans f (Refused SettingsConflict) q i h = still_as p q h.2
still_close p chans f (Refused HardwareError) q i h = still_idle p q i (ap (λ (x : Panel). x.cage.scan) h.2.1) (ap (λ (x : Panel). x.cage.readings) h.2.1)
still_close p chans f a q i h = absurd h

still_open : {off : Bool} (p : Panel) (chans : List Channel) (f : Bool) (a : SessionAnswer) (q : Panel) → p.cage.scan ≡ None → StepOpen p chans f a q
    → IsStill off p q
still_open p chans f (Done None) q i h = still_idle p q i (ap (λ (x : Panel). x.cage.scan) h.3) (ap (λ (x : Panel). x.cage.readings) h.3)
still_open p chans f (Refused HardwareMissing) q i h = still_as p q h.2
still_open p chans f (Refused HardwareError) q i h = still_idle p q i (ap (λ (x : Panel). x.cage.scan) h.2.1) (ap (λ (x : Panel). x.cage.readings) h.2.1)
still_open p chans f a q i h = absurd h

still_hardware : {off : Bool} (p : Panel) (there : Bool) (text : List ℕ) (f : Bool) (a : SessionAnswer) (q : Panel) → StepHardware p there text f a q
    → IsStill off p q
still_hardware p there text f (Done (Some t)) q h = still_as p q h.3
still_hardware p there text f (Refused HardwareMissing) q h = still_as p q h.2
still_hardware p there text f (Refused OutOfMemory) q h = still_as p q h.2
still_hardware p there text f a q h = absurd h

still_surety : {off : Bool} (p : Panel) (text : Bool → List ℕ) (f : Bool) (a : SessionAnswer) (q : Panel) → StepSurety p text f a q
    → IsStill off p q
still_surety p text f (Done (Some t)) q h = still_as p q h.2
still_surety p text f a q h = absurd h

still_listing : {off : Bool} (p : Panel) (listing : List ℕ) (f : Bool) (a : SessionAnswer) (q : Panel) → StepListing p listing f a q
    → IsStill off p q
still_listing p listing f (Done (Some t)) q h = still_as p q h.2
still_listing p listing f (Refused OutOfMemory) q h = still_as p q h.1
still_listing p listing f a q h = absurd h

still_text : {off : Bool} (p : Panel) (text : List ℕ) (status : StatusSeen) (f : Bool) (a : SessionAnswer) (q : Panel) → StepText p text status f a q
    → IsStill off p q
still_text p text status f (Done (Some t)) q h = inl (ap (λ (x : Panel). x.cage) h.2)
still_text p text status f (Refused OutOfMemory) q h = still_as p q h.1
still_text p text status f a q h = absurd h

still_done : {off : Bool} (p after : Panel) (f : Bool) (a : SessionAnswer) (q : Panel) → (a ≡ Done None → IsStill off p after) → StepDone after f a q
    → IsStill off p q
still_done {off} p after f (Done None) q s h = subst (λ (x : Panel). IsStill off p x) (sym h.1) (s refl)
still_done p after f a q s h = absurd h

still_setting : {off : Bool} (p : Panel) (Fits : Type 0) (error : ScpiError) (setup : Setup) (f : Bool) (a : SessionAnswer) (q : Panel)
    → StepSetting p Fits error setup f a q → IsStill off p q
still_setting p Fits error setup f (Done None) q h = inl (ap (λ (x : Panel). x.cage) h.2)
still_setting p Fits error setup f (Refused e) q h = still_as p q h.3
still_setting p Fits error setup f a q h = absurd h

pub still_refused : {off : Bool} (p : Panel) (error : ScpiError) (f : Bool) (a : SessionAnswer) (q : Panel) → StepRefused p error f a q → IsStill off p q
still_refused p error f (Refused e) q h = still_as p q h.2
still_refused p error f a q h = absurd h

still_readings : {off : Bool} (l : List Reading) (p : Panel) (f : Bool) (a : SessionAnswer) (q : Panel) → StepReadings l p f a q → IsStill off p q
still_readings [] p f a q h = still_refused p DataCorruptOrStale f a q h
still_readings (r ∷ rs) p f a q h = still_text p (join_with_byte 44 (map reading_text (r ∷ rs))) p.status f a q h

off_as : (ask : SessionAsk) (a : SessionAnswer) → a ≡ Done None
    → breaks_off (AskSession ask) (SaysSession (Done None) None) ≡ breaks_off (AskSession ask) (SaysSession a None)
off_as ask a e = ap (λ (x : SessionAnswer). breaks_off (AskSession ask) (SaysSession x None)) (sym e)

pub still_alone : (ask : SessionAsk) (d : Effect) (p : Panel) (f : Bool) (a : SessionAnswer) (q : Panel)
    → IsStillEffect (breaks_off (AskSession ask) (SaysSession (Done None) None)) p d
    → StepAlone d p f a q → IsStill (breaks_off (AskSession ask) (SaysSession a None)) p q
still_alone ask (TellsText text) p f a q n h = still_text p (text p) p.status f a q h
still_alone ask (TellsReadings readings) p f a q n h = still_readings (readings p) p f a q h
still_alone ask (ReadsOut text after) p f a q n h = still_text p (text p.status) (after p.status) f a q h
still_alone ask (SetsStatus after) p f a q n h = still_done p (record p { status = after p.status }) f a q (λ e. inl refl) h
still_alone ask (SetsUp Fits error after) p f a q n h = still_setting p (Fits p.settings) error (after p.settings) f a q h
still_alone ask (ClosesListed chans) p f a q n h = still_close p chans f a q n h
still_alone ask (OpensListed chans) p f a q n h = still_open p chans f a q n h
still_alone ask (TellsHardware there text) p f a q n h = still_hardware p (there p) (text p) f a q h
still_alone ask (TellsSurety text) p f a q n h = still_surety p (text p) f a q h
still_alone ask (TellsListing listing) p f a q n h = still_listing p listing f a q h
still_alone ask (Changes after) p f a q n h = still_done p (after p) f a q (λ e. subst (λ (b : Bool). IsStill b p (after p)) (off_as ask a e) n) h
still_alone ask Resets p f a q n h = still_done p (reset p) f a q (λ e. inr (inr (sym (off_as ask a e) ∙ n, refl, all_open_closed p.cage.cards, inr refl))) h
still_alone ask (RefusesWith error) p f a q n h = still_refused p error f a q h
still_alone ask IsOfMacros p f a q n h = still_refused p UndefinedHeader f a q h
still_alone ask Initiates p f a q n h = still_refused p UndefinedHeader f a q h
still_alone ask (Triggers happening error) p f a q n h = absurd h
