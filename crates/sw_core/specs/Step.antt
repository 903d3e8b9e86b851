-- The answers that one ask may have, and the state after it: one line for each legal pair of ask and answer.
use Rattle.std.specs.Prelude.{◌≡◌, ◌≢◌, ℕ, ◌-◌, ◌≤◌, ◌<◌, ◌==◌, ◌&&◌, not, Bool, true, false, List, [], ◌∷◌}
use Rattle.std.specs.Prelude.{Option, None, Some, slice_set, map, is_some, MatchBool, ◌⊎◌, if◌then◌else◌}
use Rattle.std.specs.Prelude.{Result, Ok, Err}
use Rattle.std.specs.List.{join_with_byte}
use Rattle.sw_base.specs.Layout.{Channel, slot_at}
use Rattle.sw_base.specs.Limits.{most_sessions}
use Rattle.sw_base.specs.Reading.{reading_text}
use Rattle.sw_base.specs.declared.reading.Reading.{Reading}
use Rattle.sw_base.specs.declared.error.ScpiError.{ScpiError}
use Rattle.sw_base.specs.declared.error.ScpiError.TheVariants.{UndefinedHeader, TriggerIgnored, InitIgnored}
use Rattle.sw_base.specs.declared.error.ScpiError.TheVariants.{HardwareMissing}
use Rattle.sw_base.specs.declared.error.ScpiError.TheVariants.{SettingsConflict, DataCorruptOrStale, SystemError}
use Rattle.sw_base.specs.declared.error.ScpiError.TheVariants.{HardwareError, OutOfMemory}
use Rattle.sw_lex.specs.declared.command.Command.{Command}
use Rattle.sw_lex.specs.declared.command.NoData.{NoData}
use Rattle.sw_verify.specs.declared.setup.Setup.{Setup}
use Rattle.sw_verify.specs.Setup.{meter_of, course_of}
use Rattle.sw_verify.specs.declared.snapshot.Snapshot.{Snapshot}
use Rattle.sw_verify.specs.Ready.{IsReady}
use Rattle.sw_status.specs.StatusModel.{StatusSeen, pushed}
use Rattle.sw_cage.specs.Accounts.{Accounts, layout_of, is_closed, all_open}
use Rattle.sw_cage.specs.Change.{Sets, OneFailed, identity}
use Rattle.sw_cage.specs.Channels.{closed_list}
use Rattle.sw_cage.specs.Close.{CanClose, RefusesClose}
use Rattle.sw_cage.specs.declared.refusal.CloseRefusal.TheVariants.{Absent, Clash}
use Rattle.sw_cage.specs.Install.{CanInstall, RefusesInstall, RefusesEject, stopped, without_card}
use Rattle.sw_cage.specs.Cage.{CageSeen, cage_layout}
use Rattle.sw_cage.specs.Takes.{Takes, TakesReturn}
use Rattle.sw_cage.specs.Outcome.{Advances, AdvancesPast, Counts, begun, with_back}
use Rattle.sw_cage.specs.Work.{FinishedSeen}
use Rattle.sw_cage.specs.TakenSeen.{TakenSeen, SaysIgnored, SaysPause, SaysJob, SaysFault, tells_fault}
use Rattle.sw_cage.specs.declared.taken.Happening.{Happening}
use Rattle.sw_cage.specs.declared.taken.Happening.TheVariants.{Bus, External, Elapsed}
use Rattle.sw_core.specs.declared.ask.SessionAsk.{SessionAsk}
use Rattle.sw_core.specs.declared.ask.SessionAsk.TheVariants as Ask
use Rattle.sw_core.specs.declared.ask.SessionAnswer.{SessionAnswer}
use Rattle.sw_core.specs.declared.ask.SessionAnswer.TheVariants as Answer
use Rattle.sw_core.specs.declared.ask.SessionAnswer.TheVariants.{Joined, Full, Stranger, Broken, Done, Refused, Hold}
use Rattle.sw_core.specs.declared.ask.SessionAnswer.TheVariants.{Worn}
use Rattle.sw_core.specs.Action.{Effect, TellsText, TellsReadings, ReadsOut, SetsStatus, SetsUp}
use Rattle.sw_core.specs.Action.{ClosesListed, OpensListed, TellsHardware, TellsSurety, TellsListing}
use Rattle.sw_core.specs.Action.{Changes}
use Rattle.sw_core.specs.Action.{Resets, Triggers, RefusesWith, IsOfMacros, Initiates, Action, AtOnce, BetweenScans}
use Rattle.sw_core.specs.Action.{AfterScan, action_of, awaits_end, reset}
use Rattle.sw_core.specs.ListingCheck.{IsListingTold}
use Rattle.sw_core.specs.declared.ask.Sid.{Sid}
use Rattle.sw_hislip.specs.LockTable.{admits}
use Rattle.sw_core.specs.Sessions.{SessionsSeen, IsJoined, IsLeastFree, is_clearing, fresh_seat, with_seat}
use Rattle.sw_core.specs.Seats.{asker_of, is_dropped, is_shut_out, StepSeat, LacksSecond, Attaches}
use Rattle.sw_core.specs.Panel.{Panel, with_cards, is_running, has_all}
use Rattle.sw_core.specs.Registers.{card_fault_reported, card_fault_cleared}
use Rattle.sw_core.specs.Event.{concluded, last_number, next_number}
use Rattle.sw_core.specs.Seen.{WorkSeen, Measures, Pauses, AskSeen, AskSession, AskInstall, AskEject, AskExternal}
use Rattle.sw_core.specs.Seen.{AskElapsed, AskFinished, AnswerSeen, SaysSession, SaysInstalled, SaysNotInstalled}
use Rattle.sw_core.specs.Seen.{SaysEjected, SaysNotEjected, SaysTaken, SaysMissed, SaysFailed, SaysBack, SaysWorn}

-- the same cards but for one's count of failures, and every relay open
pub record IsFailSafe (old new : Accounts) : Type 0 where
  pub cards : map identity new ≡ map identity old
  pub failed : OneFailed old new
  pub none : (c : Channel) → is_closed new c ≡ false

-- A card failed: every relay is open, and QUEStionable reports it (own).
abbrev pub FailsSafe : Panel → Panel → Type 0
FailsSafe p q =
    IsFailSafe p.cage.cards q.cage.cards
    × (q ≡ record (with_cards p q.cage.cards) { status = card_fault_reported p.status })

-- the listed channels may be closed: the cage has them, and at the end no two closed ones clash
abbrev pub MayClose : Panel → List Channel → Type 0
MayClose p chans = CanClose (layout_of p.cage.cards) (is_closed p.cage.cards) chans

-- ROUTe:CLOSe of these channels (SCPI-1999, 18.1)
abbrev pub StepClose : Panel → List Channel → Bool → SessionAnswer → Panel → Type 0
StepClose p chans f (Done None) q =
    (f ≡ false) × MayClose p chans × Sets p.cage.cards chans true q.cage.cards × (q ≡ with_cards p q.cage.cards)
StepClose p chans f (Refused HardwareMissing) q =
    (f ≡ false) × RefusesClose (layout_of p.cage.cards) (is_closed p.cage.cards) chans Absent × (q ≡ p)
StepClose p chans f (Refused SettingsConflict) q =
    (f ≡ false) × RefusesClose (layout_of p.cage.cards) (is_closed p.cage.cards) chans Clash × (q ≡ p)
StepClose p chans f (Refused HardwareError) q = (f ≡ true) × MayClose p chans × FailsSafe p q
StepClose p chans f answer q = ⊥

-- ROUTe:OPEN of these channels (SCPI-1999, 18.3)
abbrev pub StepOpen : Panel → List Channel → Bool → SessionAnswer → Panel → Type 0
StepOpen p chans f (Done None) q =
    (f ≡ false) × (has_all p chans ≡ true) × Sets p.cage.cards chans false q.cage.cards
    × (q ≡ with_cards p q.cage.cards)
StepOpen p chans f (Refused HardwareMissing) q = (f ≡ false) × (has_all p chans ≡ false) × (q ≡ p)
StepOpen p chans f (Refused HardwareError) q = (f ≡ true) × (has_all p chans ≡ true) × FailsSafe p q
StepOpen p chans f answer q = ⊥

-- a query of hardware; where the hardware is there, this text answers it
abbrev pub StepHardware : Panel → Bool → List ℕ → Bool → SessionAnswer → Panel → Type 0
StepHardware p there text f (Done (Some t)) q = (f ≡ false) × (there ≡ true) × (t ≡ text) × (q ≡ p)
StepHardware p there text f (Refused HardwareMissing) q = (f ≡ false) × (there ≡ false) × (q ≡ p)
StepHardware p there text f (Refused OutOfMemory) q = (f ≡ false) × (there ≡ true) × (q ≡ p)
StepHardware p there text f answer q = ⊥

-- the text for sure cards, or for cards one of which is unsure
abbrev pub IsSurety : (Bool → List ℕ) → List ℕ → Type 0
IsSurety text t = (sure : Bool) × (t ≡ text sure)

-- a query that the mainframe answers by whether the cards that it asks are sure
abbrev pub StepSurety : Panel → (Bool → List ℕ) → Bool → SessionAnswer → Panel → Type 0
StepSurety p text f (Done (Some t)) q = (f ≡ false) × IsSurety text t × (q ≡ p)
StepSurety p text f answer q = ⊥

-- a query that the mainframe answers by the check of a listing; without memory for it, it changes nothing
abbrev pub StepListing : Panel → List ℕ → Bool → SessionAnswer → Panel → Type 0
StepListing p listing f (Done (Some t)) q = (f ≡ false) × IsListingTold p listing t × (q ≡ p)
StepListing p listing f (Refused OutOfMemory) q = (f ≡ false) × (q ≡ p)
StepListing p listing f answer q = ⊥

-- a query that this text answers and that leaves this status; without memory for the text it changes nothing
abbrev pub StepText : Panel → List ℕ → StatusSeen → Bool → SessionAnswer → Panel → Type 0
StepText p text status f (Done (Some t)) q = (f ≡ false) × (t ≡ text) × (q ≡ record p { status = status })
StepText p text status f (Refused OutOfMemory) q = (f ≡ false) × (q ≡ p)
StepText p text status f answer q = ⊥

-- a command that the mainframe does, and that leaves this state
abbrev pub StepDone : Panel → Bool → SessionAnswer → Panel → Type 0
StepDone after f (Done None) q = (f ≡ false) × (q ≡ after)
StepDone after f answer q = ⊥

-- the mainframe took a setting, or refused it by an error
abbrev pub TakesSetting : Result (Unit {0}) ScpiError → SessionAnswer → Type 0
TakesSetting (Ok done) answer = answer ≡ Done None
TakesSetting (Err e) answer = answer ≡ Refused e

-- a setting that the mainframe takes where it fits, else refuses by this error
abbrev pub StepSetting : Panel → Type 0 → ScpiError → Setup → Bool → SessionAnswer → Panel → Type 0
StepSetting p Fits error setup f (Done None) q = (f ≡ false) × Fits × (q ≡ record p { settings = setup })
StepSetting p Fits error setup f (Refused e) q = (f ≡ false) × (Fits → ⊥) × (e ≡ error) × (q ≡ p)
StepSetting p Fits error setup f answer q = ⊥

-- a command that the mainframe always refuses by this error
abbrev pub StepRefused : Panel → ScpiError → Bool → SessionAnswer → Panel → Type 0
StepRefused p error f (Refused e) q = (f ≡ false) × (e ≡ error) × (q ≡ p)
StepRefused p error f answer q = ⊥

-- readings, joined by commas; where there are none, the mainframe refuses the query
abbrev pub StepReadings : List Reading → Panel → Bool → SessionAnswer → Panel → Type 0
StepReadings [] p f answer q = StepRefused p DataCorruptOrStale f answer q
StepReadings (r ∷ rs) p f answer q = StepText p (join_with_byte 44 (map reading_text (r ∷ rs))) p.status f answer q

-- ---- scans

-- the work that a scan awaits after this outcome
abbrev pub work_of : TakenSeen → Option WorkSeen
work_of (SaysPause ticket micros) = Some (Pauses ticket micros)
work_of (SaysJob job) = Some (Measures job)
work_of told = None

-- the cage made its moves, and QUEStionable reports a card that failed on the way
abbrev pub ReportsCardFault : Panel → CageSeen → TakenSeen → Bool → Panel → Type 0
ReportsCardFault p cage told f q =
    (f ≡ tells_fault told)
    × (q ≡ record p { cage = cage; status = if tells_fault told then card_fault_reported p.status else p.status })

-- the cage offers a happening to the scan (SCPI-1999, 24)
abbrev pub Happens : Panel → Happening → Bool → TakenSeen → Panel → Type 0
Happens p happening f SaysIgnored q = (f ≡ false) × (Takes p.cage happening → ⊥) × (q ≡ p)
Happens p happening f told q =
    Takes p.cage happening × AdvancesPast p.cage told q.cage × ReportsCardFault p q.cage told f q

-- the answer to a session by the cage's outcome; this error refuses what no scan takes
abbrev pub session_told : ScpiError → TakenSeen → SessionAnswer
session_told error SaysIgnored = Refused error
session_told error SaysFault = Refused HardwareError
session_told error told = Done None

-- a session's happening
pub record StepHappens (p : Panel) (happening : Happening) (error : ScpiError) (f : Bool) (answer : SessionAnswer)
    (work : Option WorkSeen) (q : Panel) : Type 0 where
  pub told : TakenSeen
  pub happens : Happens p happening f told q
  pub answer_is : answer ≡ session_told error told
  pub work_is : work ≡ work_of told

-- ---- commands

-- a command that the cage offers to no scan
abbrev pub StepAlone : Effect → Panel → Bool → SessionAnswer → Panel → Type 0
StepAlone (TellsText text) p f answer q = StepText p (text p) p.status f answer q
StepAlone (TellsReadings readings) p f answer q = StepReadings (readings p) p f answer q
StepAlone (ReadsOut text after) p f answer q = StepText p (text p.status) (after p.status) f answer q
StepAlone (SetsStatus after) p f answer q = StepDone (record p { status = after p.status }) f answer q
StepAlone (SetsUp Fits error after) p f answer q = StepSetting p (Fits p.settings) error (after p.settings) f answer q
StepAlone (ClosesListed chans) p f answer q = StepClose p chans f answer q
StepAlone (OpensListed chans) p f answer q = StepOpen p chans f answer q
StepAlone (TellsHardware there text) p f answer q = StepHardware p (there p) (text p) f answer q
StepAlone (TellsSurety text) p f answer q = StepSurety p (text p) f answer q
StepAlone (TellsListing listing) p f answer q = StepListing p listing f answer q
StepAlone (Changes after) p f answer q = StepDone (after p) f answer q
StepAlone Resets p f answer q = StepDone (reset p) f answer q
StepAlone (RefusesWith error) p f answer q = StepRefused p error f answer q
StepAlone IsOfMacros p f answer q = StepRefused p UndefinedHeader f answer q
StepAlone Initiates p f answer q = StepRefused p UndefinedHeader f answer q
StepAlone (Triggers happening error) p f answer q = ⊥

-- a command that the mainframe carries out
abbrev pub StepEffect : Effect → Panel → Bool → SessionAnswer → Option WorkSeen → Panel → Type 0
StepEffect (Triggers happening error) p f answer work q = StepHappens p happening error f answer work q
StepEffect effect p f answer work q = StepAlone effect p f answer q × (work ≡ None)

-- an ask that the mainframe holds changes nothing
abbrev pub StepHeld : Panel → SessionAsk → Bool → SessionAnswer → Option WorkSeen → Panel → Type 0
StepHeld p ask f (Hold back) None q = (f ≡ false) × (back ≡ ask) × (q ≡ p)
StepHeld p ask f answer work q = ⊥

-- The mainframe carries a command out; while a scan runs it refuses or holds some.
abbrev pub StepAction : Action → Panel → SessionAsk → Bool → SessionAnswer → Option WorkSeen → Panel → Type 0
StepAction (AtOnce effect) p ask f answer work q = StepEffect effect p f answer work q
StepAction (BetweenScans effect) p ask f answer work q =
    MatchBool (is_running p) (StepRefused p SettingsConflict f answer q × (work ≡ None))
    (StepEffect effect p f answer work q)
StepAction (AfterScan effect) p ask f answer work q =
    MatchBool (is_running p) (StepHeld p ask f answer work q) (StepEffect effect p f answer work q)

-- the error for which no scan may begin now: the first that applies
abbrev pub RefusesScan : Panel → ScpiError → Type 0
RefusesScan p InitIgnored = is_running p ≡ true
RefusesScan p SettingsConflict = (is_running p ≡ false) × (is_some (slot_at p.cage.out (meter_of p.settings)) ≡ true)
RefusesScan p SystemError =
    (is_running p ≡ false) × (is_some (slot_at p.cage.out (meter_of p.settings)) ≡ false) × (p.cage.number ≡ last_number)
RefusesScan p error = ⊥

-- a scan may begin: none runs, its meter is in, and it can be numbered
pub record MayScan (p : Panel) : Type 0 where
  pub idle : is_running p ≡ false
  pub home : is_some (slot_at p.cage.out (meter_of p.settings)) ≡ false
  pub numbered : p.cage.number < last_number

-- what a scan would begin from
abbrev pub snapshot_of : Panel → Snapshot
snapshot_of p = record { settings = p.settings; layout = cage_layout p.cage; closed = closed_list p.cage.cards }

-- a session asks what a scan would begin from; the answer has the number of the last scan too
abbrev pub StepSnapshot : Panel → Bool → SessionAnswer → Panel → Type 0
StepSnapshot p f (Answer.Snapshot s number) q =
    (f ≡ false) × MayScan p × (s ≡ snapshot_of p) × (q ≡ p) × (number ≡ p.cage.number)
StepSnapshot p f (Refused OutOfMemory) q = (f ≡ false) × MayScan p × (q ≡ p)
StepSnapshot p f (Refused e) q = (f ≡ false) × RefusesScan p e × (q ≡ p)
StepSnapshot p f answer q = ⊥

-- The scan of a plan, which passed the check, began: the cage made its moves from before the first item of its agenda.
-- QUEStionable reports no card's failure any more, unless a card failed on the way.
abbrev pub Starts : Panel → Snapshot → Bool → TakenSeen → Panel → Type 0
Starts p plan f told q =
    (f ≡ tells_fault told) × (plan ≡ snapshot_of p) × IsReady plan
    × Advances (begun p.cage) (course_of p.settings) 0 told q.cage
    × (q ≡ record p {
      cage = q.cage;
      status = if tells_fault told then card_fault_reported p.status else card_fault_cleared p.status;
    })

abbrev pub started_answer : TakenSeen → SessionAnswer
started_answer SaysFault = Refused HardwareError
started_answer told = Done None

pub record IsStarted (p : Panel) (plan : Snapshot) (f : Bool) (answer : SessionAnswer) (work : Option WorkSeen)
    (q : Panel) : Type 0 where
  pub may : MayScan p
  pub told : TakenSeen
  pub starts : Starts p plan f told q
  pub answer_is : answer ≡ started_answer told
  pub work_is : work ≡ work_of told

-- a session begins the scan of a plan that was made of the state as it is now
abbrev pub StepStart : Panel → Snapshot → Bool → SessionAnswer → Option WorkSeen → Panel → Type 0
StepStart p plan f (Done None) work q = IsStarted p plan f (Done None) work q
StepStart p plan f (Refused HardwareError) work q = IsStarted p plan f (Refused HardwareError) work q
StepStart p plan f (Refused OutOfMemory) None q = (f ≡ false) × MayScan p × (plan ≡ snapshot_of p) × (q ≡ p)
StepStart p plan f (Refused SettingsConflict) None q =
    (f ≡ false) × (RefusesScan p SettingsConflict ⊎ (MayScan p × (plan ≢ snapshot_of p))) × (q ≡ p)
StepStart p plan f (Refused e) None q = (f ≡ false) × RefusesScan p e × (q ≡ p)
StepStart p plan f answer work q = ⊥

-- ---- asks

-- what a joined session asks of its seat or of the locks
pub record IsServed (p : Panel) (ask : SessionAsk) (f : Bool) (answer : SessionAnswer) (q : Panel) : Type 0 where
  pub sessions : SessionsSeen
  pub served : StepSeat p.sessions ask answer sessions
  pub unfailed : f ≡ false
  pub after : q ≡ record p { sessions = sessions }

-- an ask of a joined session that the mainframe may do now
abbrev pub StepJoined : Panel → SessionAsk → Bool → SessionAnswer → Option WorkSeen → Panel → Type 0
StepJoined p (Ask.Fault sid e) f (Done None) None q = (f ≡ false) × (q ≡ record p { status = pushed p.status e })
StepJoined p (Ask.Unit sid command available) f answer work q =
    StepAction (action_of available command) p (Ask.Unit sid command available) f answer work q
StepJoined p (Ask.Bus sid) f answer work q = StepHappens p Bus TriggerIgnored f answer work q
StepJoined p (Ask.Snapshot sid) f answer None q = StepSnapshot p f answer q
StepJoined p (Ask.Start sid plan) f answer work q = StepStart p plan f answer work q
StepJoined p ask f answer None q = IsServed p ask f answer q
StepJoined p ask f answer work q = ⊥

-- whether a session's ask waits for the end of the scan
abbrev pub is_held : SessionAsk → Bool
is_held (Ask.Unit sid command available) = awaits_end command
is_held ask = false

-- whether the mainframe drops the session's ask now
abbrev pub drops : Panel → Sid → SessionAsk → Bool
drops p sid ask = is_clearing p.sessions sid.number && is_dropped ask

-- whether the session's ask waits for the locks of others now
abbrev pub shuts_out : Panel → Sid → SessionAsk → Bool
shuts_out p sid ask = not (admits p.sessions.locks sid.number) && is_shut_out ask

-- what the mainframe does with a joined session's ask
pub data Admission : Type 0 where
  -- it drops the ask while the session is being cleared
  Dropped : Admission
  -- it holds the ask while the locks of other sessions keep the session out
  ShutOut : Admission
  -- it may do the ask
  Admitted : Admission

-- what the mainframe does with the session's ask now: it drops what a clear drops, under any locks
abbrev pub admission : Panel → Sid → SessionAsk → Admission
admission p sid ask = if drops p sid ask then Dropped else if shuts_out p sid ask then ShutOut else Admitted

-- the mainframe drops, holds or does it
abbrev pub StepAdmitted : Admission → Panel → SessionAsk → Bool → SessionAnswer → Option WorkSeen → Panel → Type 0
StepAdmitted Dropped p ask f Broken None q = (f ≡ false) × (q ≡ p)
StepAdmitted Dropped p ask f answer work q = ⊥
StepAdmitted ShutOut p ask f answer work q = StepHeld p ask f answer work q
StepAdmitted Admitted p ask f answer work q = StepJoined p ask f answer work q

-- a new session gets the least free number, and the number of events that there are once it has joined
abbrev pub StepJoin : Panel → Bool → SessionAnswer → Option WorkSeen → Panel → Type 0
StepJoin p f (Joined sid) None q =
    (f ≡ false) × IsLeastFree p.sessions sid.number × (sid.joined ≡ next_number p.events)
    × (q ≡ record p { sessions = with_seat p.sessions sid.number (Some (fresh_seat (next_number p.events))) })
StepJoin p f Full None q =
    (f ≡ false) × ((k : ℕ) → 1 ≤ k → k ≤ most_sessions → slot_at p.sessions.seats k ≢ None) × (q ≡ p)
StepJoin p f answer work q = ⊥

-- a second channel for the session with this number
abbrev pub StepAttach : Panel → ℕ → Bool → SessionAnswer → Option WorkSeen → Panel → Type 0
StepAttach p number f (Joined sid) None q =
    (f ≡ false) × Attaches p.sessions number sid q.sessions × (q ≡ record p { sessions = q.sessions })
StepAttach p number f Stranger None q = (f ≡ false) × (LacksSecond p.sessions number → ⊥) × (q ≡ p)
StepAttach p number f answer work q = ⊥

-- an ask of no session
abbrev pub StepNew : Panel → SessionAsk → Bool → SessionAnswer → Option WorkSeen → Panel → Type 0
StepNew p Ask.Join f answer work q = StepJoin p f answer work q
StepNew p (Ask.Attach number) f answer work q = StepAttach p number f answer work q
StepNew p ask f answer work q = ⊥

-- a session's ask
abbrev pub StepSession : Option Sid → Panel → SessionAsk → Bool → SessionAnswer → Option WorkSeen → Panel → Type 0
StepSession None p ask f answer work q = StepNew p ask f answer work q
StepSession (Some sid) p ask f Stranger None q = (f ≡ false) × (IsJoined p.sessions sid → ⊥) × (q ≡ p)
StepSession (Some sid) p ask f answer work q =
    IsJoined p.sessions sid × StepAdmitted (admission p sid ask) p ask f answer work q

-- the answer to no session by the cage's outcome
abbrev pub outside_told : TakenSeen → AnswerSeen
outside_told SaysIgnored = SaysMissed
outside_told SaysFault = SaysFailed
outside_told told = SaysTaken (work_of told)

-- a happening of no session
pub record StepOutside (p : Panel) (happening : Happening) (f : Bool) (answer : AnswerSeen) (q : Panel) : Type 0 where
  pub told : TakenSeen
  pub happens : Happens p happening f told q
  pub answer_is : answer ≡ outside_told told

-- the meter of this return is out under its ticket
abbrev pub IsOut : Panel → FinishedSeen → Type 0
IsOut p done = slot_at p.cage.out done.slot ≡ Some done.ticket

-- The scan takes a meter's return, adds its reading and continues. A failure, of the meter or of a card on the way,
-- ends the scan. A late return, after its scan ended, puts its meter back, with any outcome.
abbrev pub Returns : Panel → FinishedSeen → Bool → TakenSeen → Panel → Type 0
Returns p done f SaysIgnored q =
    (f ≡ false) × (TakesReturn p.cage done.slot done.ticket → ⊥) × (q ≡ record p { cage = with_back p.cage done })
Returns p done f told q =
    TakesReturn p.cage done.slot done.ticket × Counts (with_back p.cage done) done.outcome told q.cage
    × ReportsCardFault p q.cage told f q

-- a meter returns that was out under its ticket
pub record IsReturned (p : Panel) (done : FinishedSeen) (f : Bool) (answer : AnswerSeen) (q : Panel) : Type 0 where
  pub out : IsOut p done
  pub told : TakenSeen
  pub returns : Returns p done f told q
  pub answer_is : answer ≡ outside_told told

abbrev pub StepFinished : Panel → FinishedSeen → Bool → AnswerSeen → Panel → Type 0
StepFinished p done f SaysBack q = (f ≡ false) × (IsOut p done → ⊥) × (q ≡ p)
StepFinished p done f answer q = IsReturned p done f answer q

-- What an ask does, and its answer, before its event ends.
abbrev pub Acts : Panel → AskSeen → Bool → AnswerSeen → Panel → Type 0
Acts p (AskSession ask) f (SaysSession answer work) q = StepSession (asker_of ask) p ask f answer work q
Acts p (AskInstall slot card) f SaysInstalled q =
    (f ≡ false) × (is_running p ≡ false) × (slot_at p.cage.out slot ≡ None) × CanInstall p.cage.cards slot card
    × (q ≡ with_cards p (slice_set p.cage.cards (slot - 1) (Some card)))
Acts p (AskInstall slot card) f (SaysNotInstalled refusal) q =
    (f ≡ false) × RefusesInstall p.cage slot card refusal × (q ≡ p)
Acts p (AskEject slot) f (SaysEjected card) q =
    (f ≡ false) × (slot_at p.cage.out slot ≡ None) × (slot_at (all_open p.cage.cards) slot ≡ Some card)
    × (q ≡ record p { cage = without_card (stopped p.cage) slot; status = card_fault_cleared p.status })
Acts p (AskEject slot) f (SaysNotEjected refusal) q = (f ≡ false) × RefusesEject p.cage slot refusal × (q ≡ p)
Acts p AskExternal f answer q = StepOutside p External f answer q
Acts p (AskElapsed ticket) f answer q = StepOutside p (Elapsed ticket) f answer q
Acts p (AskFinished done) f answer q = StepFinished p done f answer q
Acts p ask f answer q = ⊥

-- the asks that still act when the mainframe can number no more events: those that end a scan, or bring a meter back
abbrev pub acts_unnumbered : AskSeen → Bool
acts_unnumbered (AskSession (Ask.Unit sid (Command.NoData NoData.Abort) available)) = true
acts_unnumbered (AskEject slot) = true
acts_unnumbered (AskFinished done) = true
acts_unnumbered ask = false

-- the answer gives the ask back
abbrev pub IsWorn : AskSeen → AnswerSeen → Type 0
IsWorn (AskSession ask) (SaysSession (Worn back) None) = back ≡ ask
IsWorn (AskSession ask) answer = ⊥
IsWorn ask SaysWorn = Unit {0}
IsWorn ask answer = ⊥

-- an event that the mainframe numbers, or an ask that still acts
pub record IsEvent (p : Panel) (ask : AskSeen) (f : Bool) (answer : AnswerSeen) (q : Panel) : Type 0 where
  pub done : Panel
  pub acts : Acts p ask f answer done
  pub after : q ≡ concluded answer done

-- an ask that the mainframe can't number any more changes nothing
pub record IsUnnumbered (p : Panel) (ask : AskSeen) (f : Bool) (answer : AnswerSeen) (q : Panel) : Type 0 where
  pub worn : IsWorn ask answer
  pub unfailed : f ≡ false
  pub same : q ≡ p

-- From p, in a call in which a card failed or none did, the mainframe may give this answer and leave q.
abbrev pub Step : Panel → AskSeen → Bool → AnswerSeen → Panel → Type 0
Step p ask f answer q =
    MatchBool ((p.events == last_number) && not (acts_unnumbered ask)) (IsUnnumbered p ask f answer q)
    (IsEvent p ask f answer q)

-- The work that comes with an answer to no session.
abbrev pub Brings : AnswerSeen → Option WorkSeen → Type 0
Brings (SaysTaken awaited) work = work ≡ awaited
Brings answer work = work ≡ None
