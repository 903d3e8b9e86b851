-- Every scan does what its plan says, and ends: what it has done, what it still awaits, and how many happenings it has
-- taken.
use Rattle.std.specs.Prelude.{◌≡◌, ℕ, ◌+◌, ◌≤◌, Bool, true, false, List, [], ◌∷◌, ◌++◌, length, take, drop}
use Rattle.std.specs.Prelude.{Option, None, Some, IfSome, ◌⊎◌, ◌||◌}
use Rattle.std.specs.List.{AllByRecursion}
use Rattle.sw_base.specs.Layout.{Channel}
use Rattle.sw_trigger.specs.Counts.{awaiting, reads}
use Rattle.sw_verify.specs.Setup.{agenda, bound_of, readings_of, points_of, course_of}
use Rattle.sw_verify.specs.declared.snapshot.Snapshot.{Snapshot}
use Rattle.sw_verify.specs.Channels.{is_among}
use Rattle.sw_verify.specs.Sound.{effect}
use Rattle.sw_cage.specs.Accounts.{is_closed}
use Rattle.sw_lex.specs.declared.command.Command.TheVariants as command
use Rattle.sw_lex.specs.declared.command.NoData.TheVariants as plain
use Rattle.sw_cage.specs.Cage.{ScanSeen}
use Rattle.sw_core.specs.declared.ask.Sid.{Sid}
use Rattle.sw_core.specs.declared.ask.SessionAsk.TheVariants as Ask
use Rattle.sw_core.specs.declared.ask.SessionAnswer.TheVariants.{Done}
use Rattle.sw_core.specs.Panel.{Panel, opening_at, is_running}
use Rattle.sw_core.specs.Seen.{AskSeen, AskSession, AskEject, AnswerSeen, SaysSession, SaysEjected}
use Rattle.sw_core.specs.Taken.{took, readings_after}
use Rattle.sw_core.specs.Run.{Event, IsRun, tells_failure}

-- how many items of its agenda a scan still awaits, the present one included; none, where none runs
abbrev pub left_at : ScanSeen → ℕ
left_at at = length (awaiting (drop at.index at.course.items))

abbrev pub left_of : Option ScanSeen → ℕ
left_of None = 0
left_of (Some at) = left_at at

abbrev pub left_in : Panel → ℕ
left_in p = left_of p.cage.scan

-- how many of these events are taken
abbrev pub taken_in : List Event → ℕ
taken_in [] = 0
taken_in (e ∷ events) = took e.ask e.answer + taken_in events

-- a scan begins
abbrev pub begins : AskSeen → AnswerSeen → Bool
begins (AskSession (Ask.Start sid plan)) (SaysSession (Done text) work) = true
begins ask answer = false

-- none of these events begins a scan
abbrev pub BeginsNoScan : List Event → Type 0
BeginsNoScan events = AllByRecursion (λ e. begins e.ask e.answer ≡ false) events

-- the state after these events
abbrev pub last_of : Panel → List Event → Panel
last_of p [] = p
last_of p (e ∷ events) = last_of e.panel events

-- A scan that runs has done the first items of its plan's agenda and no others: they lead from what its plan found
-- closed to what is closed now, with the readings of those items.
pub record IsFollowing (plan : Snapshot) (p : Panel) (at : ScanSeen) : Type 0 where
  pub course : at.course ≡ course_of plan.settings
  pub closed : (c : Channel)
      → is_closed p.cage.cards c ≡ effect (is_among plan.closed) (take at.index (agenda plan.settings)) c
  pub readings : length p.cage.readings ≡ reads (take at.index (agenda plan.settings))

-- ABORt and *RST, and the eject of a card, done
abbrev pub stops : AskSeen → AnswerSeen → Bool
stops (AskSession (Ask.Unit sid (command.NoData plain.Abort) available)) (SaysSession (Done None) work) = true
stops (AskSession (Ask.Unit sid (command.NoData plain.Reset) available)) (SaysSession (Done None) work) = true
stops (AskEject slot) (SaysEjected card) = true
stops ask answer = false

-- what breaks a scan off before it is complete: these, and a card's failure
abbrev pub breaks_off : AskSeen → AnswerSeen → Bool
breaks_off ask answer = tells_failure answer || stops ask answer

-- The scan of a plan is complete.
pub record IsComplete (plan : Snapshot) (count : ℕ) (p : Panel) : Type 0 where
  -- what is closed is what the plan found closed
  pub closed : (c : Channel) → is_closed p.cage.cards c ≡ is_among plan.closed c
  -- it has taken as many happenings as its bound says
  pub taken : count ≡ bound_of plan.settings
  -- its readings are those of its whole agenda
  pub readings : length p.cage.readings ≡ readings_of plan.settings
  -- there was room for them
  pub room : length p.cage.readings ≤ points_of plan.settings

-- This ask ended the scan of a plan before that: it ran at p, and none runs at q.
pub record IsBrokenOff (plan : Snapshot) (p : Panel) (ask : AskSeen) (answer : AnswerSeen) (q : Panel) : Type 0 where
  -- no relay of any slot is closed
  pub none : (c : Channel) → is_closed q.cage.cards c ≡ false
  -- its readings are those that it had made, and that of the meter which came back; *RST drops them
  pub readings : q.cage.readings ≡ readings_after ask answer p.cage.readings
  -- there was room for them
  pub room : length q.cage.readings ≤ points_of plan.settings

-- The scan of a plan runs before this event, and none runs after it: then it is complete, or one of four things ended
-- it and it is broken off. Nothing else ends a scan.
abbrev pub IsOver : Snapshot → ℕ → Panel → Event → Type 0
IsOver plan taken p e = IsComplete plan (taken + took e.ask e.answer) e.panel
    ⊎ ((breaks_off e.ask e.answer ≡ true) × IsBrokenOff plan p e.ask e.answer e.panel)

-- A scan has begun by the plan in the event before these, and none has since: while it runs it has done a prefix of its
-- plan's agenda; it took no more happenings than its plan's bound; what it took and what it still awaits make up the
-- bound, unless it is over; and when it took as many as the bound, it is over.
pub record IsEnding (plan : Snapshot) (start : Panel) (events : List Event) : Type 0 where
  pub follows : IfSome (last_of start events).cage.scan (λ at. IsFollowing plan (last_of start events) at)
  pub most : taken_in events ≤ bound_of plan.settings
  pub adds_up : (taken_in events + left_in (last_of start events) ≡ bound_of plan.settings)
      ⊎ ((last_of start events).cage.scan ≡ None)
  pub over : taken_in events ≡ bound_of plan.settings → (last_of start events).cage.scan ≡ None

-- a scan begins by the plan in the event
pub record BeginsScan (plan : Snapshot) (start : Event) : Type 0 where
  pub sid : Sid
  pub ask : start.ask ≡ AskSession (Ask.Start sid plan)
  pub done : begins start.ask start.answer ≡ true

-- Of a scan that began in any event of any run, and of the events after that one.
pub record ScanEnds (plan : Snapshot) (start : Event) : Type 0 where
  -- it runs then
  pub runs : is_running start.panel ≡ true
  -- while none begins
  pub along : (after : List Event) → BeginsNoScan after → IsRun start.panel after → IsEnding plan start.panel after
  -- where it is over
  pub ends : (between : List Event) (e : Event) → BeginsNoScan (between ++ e ∷ [])
      → IsRun start.panel (between ++ e ∷ [])
      → is_running (last_of start.panel between) ≡ true → is_running e.panel ≡ false
      → IsOver plan (taken_in between) (last_of start.panel between) e

-- in every run
abbrev pub EveryScanEnds : Type 0
EveryScanEnds = (numbered scanned : ℕ) (before : List Event) (start : Event) (plan : Snapshot)
    → IsRun (opening_at numbered scanned) (before ++ start ∷ []) → BeginsScan plan start → ScanEnds plan start
