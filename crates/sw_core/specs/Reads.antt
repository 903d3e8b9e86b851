-- The answer to READ?: the readings of the scan that it began, and of no other (SCPI-1999, volume 2, 3).
use Rattle.std.specs.Prelude.{◌≡◌, ℕ, Bool, false, List, [], ◌∷◌, ◌++◌, length, map, Some, None}
use Rattle.std.specs.List.{join_with_byte}
use Rattle.sw_base.specs.Reading.{reading_text}
use Rattle.sw_lex.specs.declared.command.Command.TheVariants as command
use Rattle.sw_verify.specs.Setup.{readings_of}
use Rattle.sw_verify.specs.declared.snapshot.Snapshot.{Snapshot}
use Rattle.sw_core.specs.declared.ask.Sid.{Sid}
use Rattle.sw_core.specs.declared.ask.SessionAsk.TheVariants as Ask
use Rattle.sw_core.specs.declared.ask.SessionAnswer.TheVariants as Answer
use Rattle.sw_core.specs.Panel.{opening_at, is_running}
use Rattle.sw_core.specs.Event.{next_number}
use Rattle.sw_core.specs.Seen.{AskSession, SaysSession}
use Rattle.sw_core.specs.Run.{Event, IsRun}
use Rattle.sw_core.specs.Ends.{BeginsScan, BeginsNoScan}

-- the mainframe answers a session what a scan would begin from, and that the last one has this number
pub record Offers (number : ℕ) (e : Event) : Type 0 where
  pub sid : Sid
  pub snapshot : Snapshot
  pub ask : e.ask ≡ AskSession (Ask.Snapshot sid)
  pub answer : e.answer ≡ SaysSession (Answer.Snapshot snapshot number) None

-- the mainframe answers a session a text for the readings of the scan with this number, as many as this count
pub record TellsReadingsOf (number count : ℕ) (text : List ℕ) (e : Event) : Type 0 where
  pub sid : Sid
  pub available : Bool
  pub ask : e.ask ≡ AskSession (Ask.Unit sid (command.ScanReadings number count) available)
  pub answer : e.answer ≡ SaysSession (Answer.Done (Some text)) None

-- Of a scan that a plan began, between a snapshot and the event that answers a text.
pub record AreItsReadings (plan : Snapshot) (between after : List Event) (text : List ℕ) (e : Event) : Type 0 where
  -- no other scan began from the snapshot on
  pub first : BeginsNoScan between
  pub last : BeginsNoScan after
  -- the scan is over
  pub over : is_running e.panel ≡ false
  -- it has made all readings that its plan makes
  pub all : length e.panel.cage.readings ≡ readings_of plan.settings
  -- the text is these
  pub told : text ≡ join_with_byte 44 (map reading_text e.panel.cage.readings)

-- In every run: READ? asks for a snapshot, starts the scan of a plan, and asks for the readings of the scan whose
-- number is the next one, as many as its plan makes. The answer is the readings of that scan.
abbrev pub ReadTellsItsScan : Type 0
ReadTellsItsScan = (numbered scanned number : ℕ) (before between after : List Event) (offer start e : Event)
    (plan : Snapshot) (text : List ℕ)
    → IsRun (opening_at numbered scanned) (before ++ offer ∷ (between ++ start ∷ (after ++ e ∷ [])))
    → Offers number offer → BeginsScan plan start
    → TellsReadingsOf (next_number number) (readings_of plan.settings) text e
    → AreItsReadings plan between after text e
