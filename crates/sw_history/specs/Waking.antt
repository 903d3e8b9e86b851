-- The events after which waiting sessions may proceed: no other event ends what holds an ask.
use Rattle.std.specs.Prelude.{◌≡◌, ◌↔◌, ◌==◌, ◌+◌, ◌&&◌, ◌||◌, ℕ, Bool, true, false, not, None, is_none, if◌then◌else◌}
use Rattle.sw_lex.specs.declared.command.Command.{Command}
use Rattle.sw_lex.specs.declared.command.Command.TheVariants as command
use Rattle.sw_lex.specs.declared.command.NoData.TheVariants as plain
use Rattle.sw_core.specs.declared.ask.SessionAsk.{SessionAsk}
use Rattle.sw_core.specs.declared.ask.SessionAsk.TheVariants as Ask
use Rattle.sw_core.specs.declared.ask.SessionAnswer.TheVariants.{Hold, Lock}
use Rattle.sw_core.specs.Event.{last_number}
use Rattle.sw_core.specs.Panel.{Panel}
use Rattle.sw_core.specs.Seen.{AskSeen, AskSession, AskInstall, AskEject, AskExternal, AskElapsed, AskFinished}
use Rattle.sw_core.specs.Seen.{AnswerSeen, SaysSession, SaysTaken, SaysMissed, SaysNotEjected}
use Rattle.sw_core.specs.Step.{Step}
use Rattle.sw_history.specs.declared.waking.WakeScope.{WakeScope}
use Rattle.sw_history.specs.declared.waking.WakeScope.TheVariants.{Nobody, Seats, ScanBy, Scan}
use Rattle.sw_history.specs.History.{AwaitsEnd}
use Rattle.sw_history.specs.Shares.{is_event}

-- a command that may end the scan that runs: it stops the scan, or is a happening that the scan may take
abbrev pub may_end : Command → Bool
may_end (command.NoData plain.Abort) = true
may_end (command.NoData plain.Reset) = true
may_end (command.NoData plain.Trigger) = true
may_end (command.Signal layer) = true
may_end unit = false

-- the causes of a hold that a session's ask may end: locks and clears, or the scan
abbrev pub session_scope : SessionAsk → WakeScope
session_scope Ask.Join = Nobody
session_scope (Ask.Attach number) = Nobody
session_scope (Ask.Attached sid) = Nobody
session_scope (Ask.Leave sid) = Seats
session_scope (Ask.Size sid size) = Nobody
session_scope (Ask.MaxSize sid) = Nobody
session_scope (Ask.Clear sid) = Seats
session_scope (Ask.Cleared sid) = Nobody
session_scope (Ask.Lock sid key) = Seats
session_scope (Ask.Release sid) = Seats
session_scope (Ask.LockInfo sid) = Nobody
session_scope (Ask.Unit sid unit available) = if may_end unit then ScanBy sid else Nobody
session_scope (Ask.Fault sid error) = Nobody
session_scope (Ask.Bus sid) = ScanBy sid
session_scope (Ask.Snapshot sid) = Nobody
session_scope (Ask.Start sid plan) = Nobody

abbrev pub scope_of : AskSeen → WakeScope
scope_of (AskSession ask) = session_scope ask
scope_of (AskInstall slot card) = Nobody
scope_of (AskEject slot) = Scan
scope_of AskExternal = Scan
scope_of (AskElapsed ticket) = Scan
scope_of (AskFinished done) = Scan

-- An event with this answer may change locks or clears: a lock or a release that is an error leaves them.
abbrev pub changes_seats : AnswerSeen → Bool
changes_seats (SaysSession (Lock code) work) = not (code == 3)
changes_seats answer = true

-- The scan may be over after an event for which no session asked: it isn't where the event brings work, nor where no
-- scan took it. A card's failure ends it.
abbrev pub may_be_over : AnswerSeen → Bool
may_be_over (SaysTaken work) = is_none work
may_be_over SaysMissed = false
may_be_over (SaysNotEjected refusal) = false
may_be_over answer = true

-- Waiting sessions may proceed after an answer. For a session's ask that may end the scan, that is where a scan ran
-- before it and none runs after it.
abbrev pub wakes : WakeScope → Bool → Bool → AnswerSeen → Bool
wakes Nobody ran runs answer = false
wakes Seats ran runs answer = is_event answer && changes_seats answer
wakes (ScanBy sid) ran runs answer = is_event answer && (ran && not runs)
wakes Scan ran runs answer = is_event answer && may_be_over answer

abbrev pub next_turn : ℕ → ℕ
next_turn turn = if turn == last_number then 0 else turn + 1

-- The turn after an ask: another one where waiting sessions may proceed, and where no more events can be numbered.
abbrev pub turn_after : ℕ → Bool → ℕ → ℕ
turn_after turn may_go_on events = if may_go_on || (events == last_number) then next_turn turn else turn

-- the mainframe holds the session's ask at this panel
abbrev pub IsKeptWaiting : Panel → SessionAsk → Type 0
IsKeptWaiting p ask = Step p (AskSession ask) false (SaysSession (Hold ask) None) p

-- what the mainframe holds at one panel it holds at the other
abbrev pub HoldsOn : Panel → Panel → Type 0
HoldsOn p q = (ask : SessionAsk) → IsKeptWaiting p ask → IsKeptWaiting q ask

-- whether a scan runs, where a session's ask may end it: as the mainframe would hold that session's *OPC?
abbrev pub TellsScan : WakeScope → Panel → Bool → Type 0
TellsScan (ScanBy sid) p runs = (runs ≡ true) ↔ AwaitsEnd p sid
TellsScan scope p runs = Unit {0}

-- A step that ends a hold changes the turn: where the turn stays, the mainframe still holds all that it held.
pub record WhoMayGoOnIsWoken : Type 0 where
  pub law : (p q : Panel) (ask : AskSeen) (failed : Bool) (answer : AnswerSeen) (ran runs : Bool) (turn : ℕ)
      → Step p ask failed answer q → TellsScan (scope_of ask) p ran → TellsScan (scope_of ask) q runs
      → turn_after turn (wakes (scope_of ask) ran runs answer) q.events ≡ turn → HoldsOn p q
