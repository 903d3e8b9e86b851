-- What `run` writes for what it reads.
use Rattle.std.specs.Prelude.{◌≡◌, ℕ, true, false, List, [], ◌∷◌, ◌++◌, Option, None, Some, Result, OnOk, IfErr, ◌⊎◌}
use Rattle.std.specs.Result.{IsErrAnd}
use Rattle.std.specs.Io.KnownBytes.{Appends, Keeps, IsAtEnd}
use Rattle.std.specs.Io.{StopsAt}
use Rattle.sw_core.specs.declared.ask.Sid.{Sid}
use Rattle.sw_core.specs.declared.ask.SessionAsk.TheVariants as Ask
use Rattle.sw_core.specs.declared.ask.SessionAnswer.TheVariants.{Joined, Done}
use Rattle.sw_core.specs.Panel.{Panel, opening}
use Rattle.sw_core.specs.Run.{AtEach, IsGoodEvent}
use Rattle.sw_code.specs.Range.{Program}
use Rattle.sw_lex.specs.declared.command.Command.TheVariants as Command
use Rattle.sw_lex.specs.declared.command.Setting.TheVariants as Setting
use Rattle.sw_macro.specs.Table.{no_macros}
use Rattle.sw_talk.specs.CoreDesk.{DeskSeen, CorePasses, WaitsOut, desk_over}
use Rattle.sw_talk.specs.DeskRuns.{Exchange, IsRunTo, asked_in, asked_of}
use Rattle.sw_talk.specs.Talk.{state, Talked}
use Rattle.sw_talk.specs.Talk.{TalkState as StateOver}
use Rattle.sw_talk.specs.Trace.{Entry, Asked, Leads}
use Rattle.mainframe.specs.declared.fault.RunFault.{RunFault}
use Rattle.mainframe.specs.declared.fault.RunFault.TheVariants.{Input, Output, Memory, Listen, Descriptors}
use Rattle.sw_serve.specs.SlotCards.{PlacedCard, IsSetUp}
use Rattle.mainframe.specs.Lines.{lines_of}
use Rattle.sw_session.specs.ServeWrite.{WritesPart}

-- a run's state
abbrev pub RunState : Type 0
RunState = StateOver DeskSeen

-- a run begins at this desk with no macro, and macros off; over a mainframe with nothing outstanding
abbrev pub begins_at : DeskSeen → RunState
begins_at d = state d no_macros

abbrev pub begins_over : Panel → RunState
begins_over p = begins_at (desk_over p)

-- the session asks for this scan program, which is on then, as by a unit of a message, and is answered that it is done
abbrev pub takes_program : Program → Sid → Entry
takes_program program sid = Asked (Ask.Unit sid (Command.Set (Setting.Program program)) false) (Done None)

-- what is asked before the first line: that, where there is a program
abbrev pub asked_first : Option Program → Sid → List Entry
asked_first None sid = []
asked_first (Some program) sid = takes_program program sid ∷ []

-- one line is talked over and answered by these bytes, and then all that is outstanding is carried out
pub record Line (sid : Sid) (old : RunState) (line told : List ℕ) (new : RunState) : Type 0 where
  pub spoken : DeskSeen
  pub talked : Talked CorePasses sid old line told (state spoken new.macros)
  pub rests : WaitsOut spoken true new.desk

-- these lines, one after another, are answered by these bytes; the macros of one are those of the next
abbrev pub Run : Sid → RunState → List (List ℕ) → List ℕ → RunState → Type 0
Run sid s [] bytes s' = (bytes ≡ []) × (s' ≡ s)
Run sid s (l ∷ ls) bytes s' =
    (told : List ℕ) × (mid : RunState) × (more : List ℕ) × Line sid s l told mid × Run sid mid ls more s'
    × (bytes ≡ told ++ more)

-- of the lines of the input those before the rest are answered by these bytes
pub record RunsTo (sid : Sid) (start : RunState) (input rest bytes : List ℕ) : Type 0 where
  pub done : List (List ℕ)
  pub lines : lines_of input ≡ done ++ lines_of rest
  pub after : RunState
  pub run : Run sid start done bytes after

-- what the session asked over these lines, and was answered
abbrev pub asks_over : (sid : Sid) (s : RunState) (lines : List (List ℕ)) (bytes : List ℕ) (s' : RunState)
    → Run sid s lines bytes s' → List Exchange
asks_over sid s [] bytes s' run = []
asks_over sid s (l ∷ ls) bytes s' (told, mid, more, line, run, is) =
    asked_in line.talked.trace ++ asks_over sid mid ls more s' run

-- All that was asked of the mainframe, from its opening state on, is a run, and each event of the run is good: the
-- session joined, cards came in, the session asked this, and work was carried out.
pub record IsWhole (sid : Sid) (asks : List Exchange) (q : Panel) : Type 0 where
  pub runs : IsRunTo opening q
  pub asks_are : asked_of runs.events ≡ record { ask = Ask.Join; answer = Joined sid } ∷ asks
  pub good : AtEach IsGoodEvent opening runs.events

-- where this was asked before the lines
abbrev pub IsWholeOf : (sid : Sid) (first : List Exchange) (start : RunState) (input rest bytes : List ℕ)
    → RunsTo sid start input rest bytes → Type 0
IsWholeOf sid first start input rest bytes r =
    IsWhole sid (first ++ asks_over sid start r.done bytes r.after r.run) r.after.desk.panel

-- and all of these bytes are written
pub record AnsweredFrom (sid : Sid) (start : RunState) (input rest : List ℕ) (old new : Option (List ℕ)) : Type 0 where
  pub bytes : List ℕ
  pub runs : RunsTo sid start input rest bytes
  pub writes : Appends old new bytes

-- or a front part of them is, and all behind these lines is still unread
pub record PartFrom (sid : Sid) (start : RunState) (input : List ℕ) (left old new : Option (List ℕ)) : Type 0 where
  pub rest : List ℕ
  pub is_left : left ≡ Some rest
  pub bytes : List ℕ
  pub runs : RunsTo sid start input rest bytes
  pub writes : WritesPart old new bytes

-- A read failed, with what it cut off of a line and what was left unread: all lines before that are answered.
pub record CutFrom (sid : Sid) (start : RunState) (input : List ℕ) (left old new : Option (List ℕ)) : Type 0 where
  pub cut : List ℕ
  pub unread : List ℕ
  pub is_left : left ≡ Some unread
  pub stops : StopsAt cut 10
  pub answered : AnsweredFrom sid start input (cut ++ unread) old new

-- what is written at a fault
abbrev pub EndsFrom : Sid → RunState → RunFault → List ℕ → Option (List ℕ) → Option (List ℕ) → Option (List ℕ) → Type 0
EndsFrom sid start Input input left old new = CutFrom sid start input left old new
EndsFrom sid start Memory input left old new = CutFrom sid start input left old new
EndsFrom sid start Output input left old new = PartFrom sid start input left old new
EndsFrom sid start Listen input left old new = ⊥
EndsFrom sid start Descriptors input left old new = ⊥

-- and so it is up to a fault
abbrev pub IsWholeTo : (sid : Sid) (first : List Exchange) (start : RunState) (fault : RunFault) (input : List ℕ)
    (left old new : Option (List ℕ)) → EndsFrom sid start fault input left old new → Type 0
IsWholeTo sid first start Input input left old new ends =
    IsWholeOf sid first start input (ends.cut ++ ends.unread) ends.answered.bytes ends.answered.runs
IsWholeTo sid first start Memory input left old new ends =
    IsWholeOf sid first start input (ends.cut ++ ends.unread) ends.answered.bytes ends.answered.runs
IsWholeTo sid first start Output input left old new ends =
    IsWholeOf sid first start input ends.rest ends.bytes ends.runs
IsWholeTo sid first start Listen input left old new ends = ⊥
IsWholeTo sid first start Descriptors input left old new ends = ⊥

-- a desk over a mainframe that a session joined and that took these cards, once the session was answered this
pub record Begins (first : Sid → List Entry) (cards : List PlacedCard) (sid : Sid) (start : DeskSeen) : Type 0 where
  pub fitted : Panel
  pub set_up : IsSetUp cards sid fitted
  pub asked : Leads CorePasses (desk_over fitted) (first sid) start

-- The whole input is answered by a mainframe of these cards, once this was asked.
pub record Answered (first : Sid → List Entry) (cards : List PlacedCard) (input : List ℕ)
    (old new : Option (List ℕ)) : Type 0 where
  pub sid : Sid
  pub start : DeskSeen
  pub begins : Begins first cards sid start
  pub answered : AnsweredFrom sid (begins_at start) input [] old new
  pub whole : IsWholeOf sid (asked_in (first sid)) (begins_at start) input [] answered.bytes answered.runs

-- The input is answered up to a fault by a mainframe of these cards, once this was asked.
pub record Cut (first : Sid → List Entry) (cards : List PlacedCard) (fault : RunFault) (input : List ℕ)
    (left old new : Option (List ℕ)) : Type 0 where
  pub sid : Sid
  pub start : DeskSeen
  pub begins : Begins first cards sid start
  pub ends : EndsFrom sid (begins_at start) fault input left old new
  pub whole : IsWholeTo sid (asked_in (first sid)) (begins_at start) fault input left old new ends

-- there was no memory to begin: nothing was read, and nothing written
pub record Unbegun (fault : RunFault) (input : List ℕ) (left old new : Option (List ℕ)) : Type 0 where
  pub memory : fault ≡ Memory
  pub unread : left ≡ Some input
  pub unwritten : Keeps old new

-- The outcome of a run by a mainframe of these cards, which the session asks this before the first line. At Ok all of
-- the input was read and answered. At a fault either nothing was begun, or the answers are written up to the fault.
pub record Runs (first : Sid → List Entry) (cards : List PlacedCard) (result : Result (Unit {0}) RunFault)
    (input : List ℕ) (left old new : Option (List ℕ)) : Type 0 where
  pub answered : OnOk result (Answered first cards input old new)
  pub all : OnOk result (IsAtEnd left)
  pub fault : IfErr result (λ fault. Unbegun fault input left old new ⊎ Cut first cards fault input left old new)

-- The clause of a run's part: what is asked first leads to a desk, and from there the lines are answered.
pub record AnswersFrom (sid : Sid) (first : List Entry) (desk : DeskSeen) (result : Result (Unit {0}) RunFault)
    (input : List ℕ) (left old new : Option (List ℕ)) : Type 0 where
  pub start : DeskSeen
  pub asked : Leads CorePasses desk first start
  pub answered : OnOk result (AnsweredFrom sid (begins_at start) input [] old new)
  pub all : OnOk result (IsAtEnd left)
  pub fault : IfErr result (λ fault. EndsFrom sid (begins_at start) fault input left old new)

-- or there was no memory for what is asked first
abbrev pub RunsFrom : Sid → List Entry → DeskSeen → Result (Unit {0}) RunFault → List ℕ → Option (List ℕ)
    → Option (List ℕ) → Option (List ℕ) → Type 0
RunsFrom sid first desk result input left old new =
    IsErrAnd result (λ fault. Unbegun fault input left old new)
    ⊎ AnswersFrom sid first desk result input left old new
