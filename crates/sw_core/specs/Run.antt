-- Runs: lists of events from the opening state, and what no run can do.
use Rattle.std.specs.Prelude.{◌≡◌, ◌≢◌, ℕ, Bool, true, false, List, [], ◌∷◌, ◌++◌, Some, None, ◌⊎◌, decimal}
use Rattle.std.specs.Prelude.{Option, length, map, is_err}
use Rattle.sw_base.specs.Layout.{Channel}
use Rattle.sw_base.specs.declared.error.ScpiError.{ScpiError}
use Rattle.sw_base.specs.declared.error.ScpiError.TheVariants.{HardwareError, OutOfMemory}
use Rattle.sw_base.specs.declared.reading.Reading.{Reading}
use Rattle.sw_card.specs.Account.{Account, closed_at}
use Rattle.sw_trigger.specs.Counts.{awaiting}
use Rattle.sw_verify.specs.Channels.{is_among}
use Rattle.sw_cage.specs.Accounts.{Accounts, is_closed}
use Rattle.sw_cage.specs.Cage.{ScanSeen}
use Rattle.sw_cage.specs.Change.{any_failed}
use Rattle.sw_cage.specs.Takes.{TakesReturn}
use Rattle.sw_lex.specs.declared.command.Command.{Command}
use Rattle.sw_lex.specs.declared.command.Command.TheVariants as command
use Rattle.sw_lex.specs.declared.command.NoData.TheVariants as plain
use Rattle.sw_lex.specs.declared.command.PlainQuery.TheVariants as query
use Rattle.sw_lex.specs.declared.command.RelayCommand.TheVariants as list
use Rattle.sw_core.specs.declared.ask.Sid.{Sid}
use Rattle.sw_core.specs.declared.ask.SessionAsk.TheVariants as Ask
use Rattle.sw_core.specs.declared.ask.SessionAnswer.TheVariants.{Done, Refused}
use Rattle.sw_status.specs.StatusModel.{queued}
use Rattle.sw_core.specs.Event.{ended, erred}
use Rattle.sw_core.specs.Good.{IsGoodPanel}
use Rattle.sw_core.specs.Panel.{Panel, opening_at, is_running}
use Rattle.sw_core.specs.Seen.{WorkSeen, AskSeen, AskSession, AskEject, AskFinished, AnswerSeen, SaysSession, SaysEjected}
use Rattle.sw_core.specs.Seen.{SaysFailed, failed_in, IsOwnAccount, with_meter}
use Rattle.sw_core.specs.Taken.{took, is_happening, readings_after, IsUnmoved}
use Rattle.sw_core.specs.Seats.{FindsKey}
use Rattle.sw_core.specs.Step.{Step, Brings}
use Rattle.sw_core.specs.LeftOpen.{leaves_open}

-- one event: an ask, its answer, and the state after it
pub record Event : Type 0 where
  pub ask : AskSeen
  pub answer : AnswerSeen
  pub panel : Panel

-- the event is a step from p, with a card's failure in it exactly where `failed_in` says so
pub record IsNextEvent (p : Panel) (e : Event) : Type 0 where
  pub own : IsOwnAccount e.ask
  pub step : Step p e.ask (failed_in e.ask e.answer p.cage.cards e.panel.cage.cards) e.answer e.panel

-- such an event is next, and leaves this work
pub record StepBrings (p : Panel) (ask : AskSeen) (work : Option WorkSeen) (q : Panel) : Type 0 where
  pub answer : AnswerSeen
  pub next : IsNextEvent p (record { ask = ask; answer = answer; panel = q })
  pub brings : Brings answer work

-- each event is a step from the state before it
abbrev pub IsRun : Panel → List Event → Type 0
IsRun p [] = Unit {0}
IsRun p (e ∷ events) = IsNextEvent p e × IsRun e.panel events

-- this is so of each event and the state before it
abbrev pub AtEach : (Panel → Event → Type 0) → Panel → List Event → Type 0
AtEach Is p [] = Unit {0}
AtEach Is p (e ∷ events) = Is p e × AtEach Is e.panel events

-- the answer to DIAGnostic:SCAN:BOUNd? is the bound of the scan that runs
abbrev pub TellsBound : Event → Type 0
TellsBound e = (sid : Sid) (available : Bool) (text : List ℕ) (at : ScanSeen)
    → e.ask ≡ AskSession (Ask.Unit sid (command.Query query.Bound) available)
    → e.answer ≡ SaysSession (Done (Some text)) None
    → e.panel.cage.scan ≡ Some at → text ≡ decimal (length (awaiting at.course.items))

-- the answer reports a card's failure
abbrev pub tells_failure : AnswerSeen → Bool
tells_failure SaysFailed = true
tells_failure (SaysSession (Refused HardwareError) work) = true
tells_failure answer = false

-- a count of failures changed: of the meter that came back, since before it measured, or of a card that stayed
abbrev pub CountsFailure : AskSeen → Accounts → Accounts → Type 0
CountsFailure (AskFinished done) old new =
    (done.meter.failures ≢ done.before) ⊎ (any_failed (with_meter old done) new ≡ true)
CountsFailure ask old new = any_failed old new ≡ true

-- this is the last reading of the meter that came back, by its own account
abbrev pub IsLastOf : AskSeen → Reading → Type 0
IsLastOf (AskFinished done) r = done.meter.last ≡ Some r
IsLastOf ask r = ⊥

-- the readings stay, are dropped, or one more is behind them, which is the returned meter's own
abbrev pub AddsOwn : AskSeen → List Reading → List Reading → Type 0
AddsOwn ask old new = (new ≡ old) ⊎ ((new ≡ []) ⊎ ((r : Reading) × IsLastOf ask r × (new ≡ old ++ r ∷ [])))

-- the meter that the scan awaits came back, and its measurement had failed
abbrev pub MeasuresInVain : Panel → AskSeen → Type 0
MeasuresInVain p (AskFinished done) =
    TakesReturn p.cage done.slot done.ticket × (is_err done.outcome ≡ true)
MeasuresInVain p ask = ⊥

-- a card failed: one that stayed in its slot counts other failures than before, or the measurement of the scan's meter
-- failed
abbrev pub HasFailure : Panel → AskSeen → Panel → Type 0
HasFailure p ask q = (any_failed p.cage.cards q.cage.cards ≡ true) ⊎ MeasuresInVain p ask

-- no scan runs, every relay is open, -240 is queued behind the errors before it, and QUEStionable reports a failure
pub record IsAfterCardFault (p q : Panel) : Type 0 where
  pub none : (c : Channel) → is_closed q.cage.cards c ≡ false
  pub idle : q.cage.scan ≡ None
  pub told : q.status.errors ≡ queued p.status.errors HardwareError
  pub condition : q.status.questionable.condition ≡ 512

-- what holds of each event
pub record IsGoodEvent (p : Panel) (e : Event) : Type 0 where
  -- it leaves the mainframe good
  pub panel : IsGoodPanel e.panel
  -- the bound that DIAGnostic:SCAN:BOUNd? answers is that of the scan that runs
  pub bound : TellsBound e
  -- the answer reports no failure where no card counted one
  pub failure : tells_failure e.answer ≡ true → CountsFailure e.ask p.cage.cards e.panel.cage.cards
  -- and it keeps none silent: after a failure it reports one, every relay is open and no scan runs
  pub told : HasFailure p e.ask e.panel → (tells_failure e.answer ≡ true) × IsAfterCardFault p e.panel
  -- a reading that is added is the returned meter's own
  pub own : AddsOwn e.ask p.cage.readings e.panel.cage.readings
  -- no reading is lost but by *RST and where a scan begins
  pub readings : e.panel.cage.readings ≡ readings_after e.ask e.answer p.cage.readings
  -- a happening that the scan does not take moves nothing
  pub missed : is_happening e.ask ≡ true → took e.ask e.answer ≡ 0 → IsUnmoved p e.panel

-- in every run, with any first numbers of events and scans
abbrev pub EveryRunIsGood : Type 0
EveryRunIsGood = (numbered scanned : ℕ) (events : List Event)
    → IsRun (opening_at numbered scanned) events → AtEach IsGoodEvent (opening_at numbered scanned) events

-- no scan runs, and every relay of every slot is open
pub record IsAtRest (q : Panel) : Type 0 where
  pub none : (c : Channel) → is_closed q.cage.cards c ≡ false
  pub idle : q.cage.scan ≡ None

-- a unit of a session's message that the mainframe does, and that answers nothing
abbrev pub IsDoneFor : Panel → Command → Bool → Bool → Panel → Type 0
IsDoneFor p unit available failed q = (sid : Sid)
    × Step p (AskSession (Ask.Unit sid unit available)) failed (SaysSession (Done None) None) q

-- ROUTe:CLOSe and ROUTe:OPEN as a client observes them, refusals, and every relay open after a failure, an abort, a
-- reset and an eject
pub record RelaysObey : Type 0 where
  -- after a ROUTe:CLOSe that the mainframe does, every channel of its list is closed
  pub closes : (p q : Panel) (chans : List Channel) (available failed : Bool)
      → IsDoneFor p (command.Relays list.Close chans) available failed q → (c : Channel) → is_among chans c ≡ true
      → is_closed q.cage.cards c ≡ true
  -- after a ROUTe:OPEN that the mainframe does, every channel of its list is open
  pub opens : (p q : Panel) (chans : List Channel) (available failed : Bool)
      → IsDoneFor p (command.Relays list.Open chans) available failed q → (c : Channel) → is_among chans c ≡ true
      → is_closed q.cage.cards c ≡ false
  -- a refusal for any other cause than a card's failure queues its error, ends its event, and does nothing else
  pub refused : (p q : Panel) (ask : AskSeen) (failed : Bool) (e : ScpiError) → e ≢ HardwareError
      → Step p ask failed (SaysSession (Refused e) None) q → q ≡ ended (erred p e)
  -- After an answer that reports a card's failure, to a session or to none, every relay is open, -240 is queued, and
  -- QUEStionable condition bit 9 is set. An answer reports a failure only where a card failed.
  pub failed : (p q : Panel) (ask : AskSeen) (failed : Bool) (answer : AnswerSeen) → tells_failure answer ≡ true
      → Step p ask failed answer q → (failed ≡ true) × IsAfterCardFault p q
  -- after ABORt and *RST no scan runs and every relay is open
  pub aborted : (p q : Panel) (available failed : Bool)
      → IsDoneFor p (command.NoData plain.Abort) available failed q → IsAtRest q
  pub reset : (p q : Panel) (available failed : Bool)
      → IsDoneFor p (command.NoData plain.Reset) available failed q → IsAtRest q
  -- so too after a card is ejected while a scan runs
  pub stopped : (p q : Panel) (slot : ℕ) (failed : Bool) (card : Account) → is_running p ≡ true
      → Step p (AskEject slot) failed (SaysEjected card) q → IsAtRest q
  -- an ejected card has no relay closed
  pub ejected : (p q : Panel) (slot : ℕ) (failed : Bool) (card : Account)
      → Step p (AskEject slot) failed (SaysEjected card) q → (k : ℕ) → closed_at card.closed k ≡ false

-- an answer that reports no lack of memory
abbrev pub IsPlain : AnswerSeen → Type 0
IsPlain (SaysSession (Refused e) work) = e ≢ OutOfMemory
IsPlain answer = Unit {0}

-- nor of memory for the key of a lock
abbrev pub KeepsKey : Panel → AskSeen → AnswerSeen → Type 0
KeepsKey p (AskSession ask) (SaysSession answer work) = FindsKey p.sessions ask answer
KeepsKey p ask answer = Unit {0}

-- how often a slot's card has failed
abbrev pub failures_in : Option Account → Option ℕ
failures_in None = None
failures_in (Some card) = Some card.failures

-- The cards' failures in a call: nothing where none failed; else how often each has failed, after the call.
abbrev pub FailuresAfter : Type 0
FailuresAfter = Option (List (Option ℕ))

abbrev pub failures_after : Bool → Accounts → FailuresAfter
failures_after false cards = None
failures_after true cards = Some (map failures_in cards)

-- Where memory suffices, an ask has one answer and leaves one state for what the cards do: whether one failed in the
-- call, and if so, how often each has failed after it; and whether the cards that it asks say that they are sure.
abbrev pub StepIsDetermined : Type 0
StepIsDetermined = (p q q' : Panel) (ask : AskSeen) (f f' : Bool) (a a' : AnswerSeen)
    → Step p ask f a q → Step p ask f' a' q' → failures_after f q.cage.cards ≡ failures_after f' q'.cage.cards
    → leaves_open p ask a ≡ leaves_open p ask a' → IsPlain a → IsPlain a' → KeepsKey p ask a → KeepsKey p ask a'
    → (a ≡ a') × (q ≡ q')
