-- Laws over every ask that a desk makes, and over every history.
use Rattle.std.specs.Prelude.{◌≡◌, ◌+◌, ◌==◌, ℕ, true, false, not, List, [], ◌∷◌, ◌++◌, map}
use Rattle.sw_verify.specs.declared.snapshot.Snapshot.{Snapshot}
use Rattle.sw_core.specs.Ends.{last_of, BeginsScan, ScanEnds}
use Rattle.sw_core.specs.Opening.{IsFresh, IsReached}
use Rattle.sw_core.specs.Panel.{Panel}
use Rattle.sw_core.specs.Run.{Event, IsRun, AtEach, IsGoodEvent}
use Rattle.sw_core.specs.Event.{last_number}
use Rattle.sw_core.specs.Seen.{AskSeen, AnswerSeen}
use Rattle.sw_history.specs.Board.{Said}
use Rattle.sw_history.specs.Entries.{HistoryEntry}
use Rattle.sw_history.specs.Held.{AtDesk}
use Rattle.sw_history.specs.History.{IsHistory, said_at}
use Rattle.sw_history.specs.Shares.{is_event, one_if}
use Rattle.sw_history.specs.Asks.{AsksOnce}

-- the number of events after these entries, where it began with this
abbrev pub number_after : ℕ → List HistoryEntry → ℕ
number_after first [] = first
number_after first (e ∷ entries) = number_after e.number entries

-- The desk's own entry is the last that it has then seen, and its share rises by one, unless no number was left.
pub record IsCounted (start : Panel) (ask : AskSeen) (answer : AnswerSeen) (old new : AtDesk) : Type 0 where
  pub before : List HistoryEntry
  pub entry : HistoryEntry
  pub seen : new.seat.seen ≡ before ++ entry ∷ []
  pub mine : new.seat.mine ≡ old.seat.mine ++ entry ∷ []
  pub ask_is : entry.ask ≡ ask
  pub answer_is : entry.answer ≡ answer
  pub counts : new.amount ≡ old.amount + one_if (not (number_after start.events before == last_number))

-- Each event of a desk is counted, and nothing else is.
pub record EachEventIsCounted : Type 0 where
  pub events : (start : Panel) (ask : AskSeen) (answer : AnswerSeen) (old new : AtDesk)
      → AsksOnce start ask answer old new → is_event answer ≡ true → IsCounted start ask answer old new
  pub others : (start : Panel) (ask : AskSeen) (answer : AnswerSeen) (old new : AtDesk)
      → AsksOnce start ask answer old new → is_event answer ≡ false → new.amount ≡ old.amount

-- what an entry says, whichever desk made it, and what there is to say of an event
abbrev pub said_of : HistoryEntry → Said
said_of e = record { number = e.number; ask = e.ask; answer = e.answer; pair = e.pair }

abbrev pub said_by : Event → Said
said_by e = said_at e.panel e.ask e.answer

-- The history is a run from the panel that it began at: one event for each entry, with its ask and its answer, and with
-- the entry's number and pair. Each of them leaves the mainframe good, and has the other properties of every event.
-- Each scan that begins in one of them does what its plan says, and ends.
pub record IsRunFrom (start : Panel) (entries : List HistoryEntry) (panel : Panel) : Type 0 where
  pub events : List Event
  pub told : map said_of entries ≡ map said_by events
  pub run : IsRun start events
  pub there : panel ≡ last_of start events
  pub reached : IsReached panel
  pub good : AtEach IsGoodEvent start events
  pub scans : (before after : List Event) (begin : Event) (plan : Snapshot)
      → events ≡ before ++ begin ∷ after → BeginsScan plan begin → ScanEnds plan begin

-- Every history of a mainframe that opened fresh is a run.
abbrev pub EveryHistoryIsARun : Type 0
EveryHistoryIsARun = (start : Panel) (entries : List HistoryEntry) (panel : Panel)
    → IsFresh start → IsHistory start entries panel → IsRunFrom start entries panel
