-- The history of a mainframe: its events, each a step of the core from what the one before it left. What a desk learns
-- from its ask.
use Rattle.std.specs.Prelude.{◌≡◌, ℕ, Bool, true, false, List, [], ◌∷◌, ◌++◌, Some, None}
use mathlib.Core.List.{IsPrefix}
use Rattle.sw_status.specs.StatusModel.{summary_of}
use Rattle.sw_cage.specs.Cards.{Cards}
use Rattle.sw_core.specs.Panel.{Panel}
use Rattle.sw_lex.specs.declared.command.Command.TheVariants.{NoData}
use Rattle.sw_lex.specs.declared.command.NoData.TheVariants.{OperationCompleteQuery}
use Rattle.sw_core.specs.declared.ask.Sid.{Sid}
use Rattle.sw_core.specs.declared.ask.SessionAsk.TheVariants as Ask
use Rattle.sw_core.specs.declared.ask.SessionAnswer.TheVariants.{Hold}
use Rattle.sw_core.specs.Seen.{AskSeen, AskSession, AnswerSeen, SaysSession}
use Rattle.sw_core.specs.Step.{Step}
use Rattle.sw_core.specs.Run.{Event, IsNextEvent}
use Rattle.sw_history.specs.Board.{Known, Said}
use Rattle.sw_history.specs.Entries.{HistoryEntry, made_by}
use Rattle.sw_history.specs.Shares.{is_event}

-- the status byte without bits 4 and 6, and the number of service requests so far
abbrev pub pair_of : Panel → ℕ × ℕ
pair_of p = (summary_of p.status, p.status.requests)

-- what is asked and answered, and the panel that this leaves
abbrev pub event : AskSeen → AnswerSeen → Panel → Event
event ask answer after = record { ask = ask; answer = answer; panel = after }

-- the entry is an event that leads from p to q
pub record IsEntry (p : Panel) (e : HistoryEntry) (q : Panel) : Type 0 where
  pub next : IsNextEvent p (event e.ask e.answer q)
  pub event : is_event e.answer ≡ true
  pub number : e.number ≡ q.events
  pub pair : e.pair ≡ pair_of q

-- the entries lead from p to q, one event after another
abbrev pub IsHistory : Panel → List HistoryEntry → Panel → Type 0
IsHistory p [] q = p ≡ q
IsHistory p (e ∷ entries) q = (next : Panel) × IsEntry p e next × IsHistory next entries q

-- what is said of an event after which the panel is this
abbrev pub said_at : Panel → AskSeen → AnswerSeen → Said
said_at p ask answer = record { number = p.events; ask = ask; answer = answer; pair = pair_of p }

-- the history after an event, or after what is none
abbrev pub grown : Bool → List HistoryEntry → HistoryEntry → List HistoryEntry
grown true entries e = entries ++ e ∷ []
grown false entries e = entries

-- What was asked at panel p is with its answer in one new entry of the desk, which has seen the history up to it.
pub record Entered (start p : Panel) (v : Known) (e : Event) (w : Known) : Type 0 where
  pub before : List HistoryEntry
  pub entry : HistoryEntry
  pub seen : w.seen ≡ before ++ entry ∷ []
  pub later : IsPrefix v.seen before
  pub leads : IsHistory start before p
  pub is_entry : IsEntry p entry e.panel
  pub ask_is : entry.ask ≡ e.ask
  pub answer_is : entry.answer ≡ e.answer
  pub desk : v.desk ≡ Some entry.desk
  pub mine : w.mine ≡ v.mine ++ entry ∷ []

-- The answer, which is no event's, is one of panel p, to which the history leads that the desk has then seen.
pub record Replied (start p : Panel) (v : Known) (e : Event) (w : Known) : Type 0 where
  pub same : e.panel ≡ p
  pub leads : IsHistory start w.seen p
  pub later : IsPrefix v.seen w.seen
  pub mine : w.mine ≡ v.mine

abbrev pub SeatTold : Bool → Panel → Panel → Known → Event → Known → Type 0
SeatTold true start p v e w = Entered start p v e w
SeatTold false start p v e w = Replied start p v e w

-- What a desk learns from its ask at panel p. The ask is a step; an event is an entry of the history right after what
-- led to p. What the desk has then seen is the history of a mainframe that opened so, and has the entries that the desk
-- made and no others of that desk.
pub record AsksInHistory (start p : Panel) (v : Known) (e : Event) (w : Known) : Type 0 where
  pub next : IsNextEvent p e
  pub told : SeatTold (is_event e.answer) start p v e w
  pub legal : IsHistory start w.seen e.panel
  pub desk : w.desk ≡ v.desk
  pub own : (d : ℕ) → w.desk ≡ Some d → made_by d w.seen ≡ w.mine

-- a mainframe's panel, the history that leads to it, and the cards themselves by slot
pub record InHistory (C : Type 0) : Type 0 where
  pub panel : Panel
  pub history : List HistoryEntry
  pub cards : Cards C

-- the mainframe holds the session's *OPC?
abbrev pub AwaitsEnd : Panel → Sid → Type 0
AwaitsEnd p sid = Step p (AskSession (Ask.Unit sid (NoData OperationCompleteQuery) false)) false
    (SaysSession (Hold (Ask.Unit sid (NoData OperationCompleteQuery) false)) None) p
