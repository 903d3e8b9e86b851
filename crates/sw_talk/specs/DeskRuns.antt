-- What a desk does over its mainframe is a run.
use Rattle.std.specs.Prelude.{◌≡◌, List, [], ◌∷◌, ◌++◌}
use Rattle.sw_core.specs.declared.ask.SessionAsk.{SessionAsk}
use Rattle.sw_core.specs.declared.ask.SessionAnswer.{SessionAnswer}
use Rattle.sw_core.specs.Ends.{last_of}
use Rattle.sw_core.specs.Panel.{Panel}
use Rattle.sw_core.specs.Run.{Event, IsRun}
use Rattle.sw_core.specs.Seen.{AskSeen, AskSession, AnswerSeen, SaysSession}
use Rattle.sw_talk.specs.CoreDesk.{DeskSeen, CorePasses}
use Rattle.sw_talk.specs.Trace.{Entry, Asked, Leads}

-- what a session asked, and was answered
pub record Exchange : Type 0 where
  pub ask : SessionAsk
  pub answer : SessionAnswer

-- of a call of the desk, and of all calls in their order
abbrev pub asked_at : Entry → List Exchange
asked_at (Asked ask answer) = record { ask = ask; answer = answer } ∷ []
asked_at entry = []

abbrev pub asked_in : List Entry → List Exchange
asked_in [] = []
asked_in (entry ∷ trace) = asked_at entry ++ asked_in trace

-- of an event, and of all events in their order
abbrev pub asked_by : AskSeen → AnswerSeen → List Exchange
asked_by (AskSession ask) (SaysSession answer work) = record { ask = ask; answer = answer } ∷ []
asked_by ask answer = []

abbrev pub asked_of : List Event → List Exchange
asked_of [] = []
asked_of (e ∷ events) = asked_by e.ask e.answer ++ asked_of events

-- a run leads from one state to another
pub record IsRunTo (p q : Panel) : Type 0 where
  pub events : List Event
  pub run : IsRun p events
  pub there : q ≡ last_of p events

-- By these calls of its desk a mainframe makes a run: its events are, in their order, each ask of the sessions with its
-- answer, and each report of work that was carried out.
pub record DeskRuns (old : DeskSeen) (trace : List Entry) (new : DeskSeen) : Type 0 where
  pub runs : IsRunTo old.panel new.panel
  pub asks : asked_of runs.events ≡ asked_in trace

abbrev pub CoreDeskRuns : Type 0
CoreDeskRuns = (old new : DeskSeen) (trace : List Entry) → Leads CorePasses old trace new → DeskRuns old trace new
