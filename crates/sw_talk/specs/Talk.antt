-- How a session carries a program message out: what it asks after each answer, and what it writes (IEEE 488.2, 6.3,
-- 8.4 and 10.7; SCPI-1999, 21.8).
use Rattle.std.specs.Prelude.{◌≡◌, ℕ, ◌+◌, ◌^◌, ◌≤◌, ◌⊎◌, ◌==◌, Bool, true, false, nat_lt, nat_le, ◌&&◌, MatchBool}
use Rattle.std.specs.Prelude.{List, []}
use Rattle.std.specs.Prelude.{◌∷◌, ◌++◌, Option, Some, None, Result, Ok, Err, length, take, if◌then◌else◌}
use Rattle.sw_base.specs.Limits.{most_bytes, most_answer_bytes}
use Rattle.sw_base.specs.declared.error.ScpiError.{ScpiError}
use Rattle.sw_base.specs.declared.error.ScpiError.TheVariants.{SettingsConflict, OutOfMemory, InputBufferOverrun}
use Rattle.sw_base.specs.Errors.{number_of}
use Rattle.std.specs.Io.BufRead.{strip_last}
use Rattle.sw_lex.specs.declared.command.Command.{Command}
use Rattle.sw_lex.specs.declared.command.NoData.{NoData}
use Rattle.sw_lex.specs.Unit.{UnitSeen}
use Rattle.sw_lex.specs.Meaning.{Nodes, Resolves}
use Rattle.sw_macro.specs.Table.{Table}
use Rattle.sw_macro.specs.Expansion.{calls, Expands}
use Rattle.sw_verify.specs.declared.refusal.Refusal.{Refusal}
use Rattle.sw_verify.specs.Check.{error_of}
use Rattle.sw_verify.specs.Setup.{readings_of}
use Rattle.sw_verify.specs.Ready.{IsReady, IsRefusedScan}
use Rattle.sw_core.specs.Action.{Effect, IsOfMacros, Initiates, Resets, ReadsOut, Action, AtOnce, BetweenScans}
use Rattle.sw_core.specs.Action.{AfterScan}
use Rattle.sw_core.specs.Action.{action_of}
use Rattle.sw_core.specs.Event.{next_number}
use Rattle.sw_core.specs.declared.ask.Sid.{Sid}
use Rattle.sw_core.specs.declared.ask.SessionAsk.{SessionAsk}
use Rattle.sw_core.specs.declared.ask.SessionAsk.TheVariants as Ask
use Rattle.sw_core.specs.declared.ask.SessionAnswer.{SessionAnswer}
use Rattle.sw_core.specs.declared.ask.SessionAnswer.TheVariants as Answer
use Rattle.sw_core.specs.declared.ask.SessionAnswer.TheVariants.{Stranger, Broken, Done, Refused, Hold, Worn}
use Rattle.sw_talk.specs.declared.desk.Wake.TheVariants.{Again, Over}
use Rattle.sw_talk.specs.declared.talker.AfterUnit.{AfterUnit}
use Rattle.sw_talk.specs.declared.talker.AfterUnit.TheVariants.{Goes, Drops, Ends}
use Rattle.sw_talk.specs.Trace.{Entry, Asked, Waited, Leads, Led}
use Rattle.sw_talk.specs.Script.{Ending, Complete, EndsRefused, EndsUnread, IsScript}
use Rattle.sw_talk.specs.Macros.{Told, ActsOnMacros}

-- how often a loop turns at most that others keep going: it asks a held ask again, or a source of lines for bytes
abbrev pub turns : ℕ
turns = 2 ^ 32

-- the line that is written: the answers joined by semicolons, and a line feed; nothing where there is no answer
abbrev pub answer_line : List (List ℕ) → List ℕ
answer_line [] = []
answer_line (a ∷ []) = a ++ 10 ∷ []
answer_line (a ∷ b ∷ answers) = a ++ 59 ∷ answer_line (b ∷ answers)

-- a line of answers made ready for one more: a semicolon in place of its line feed
abbrev pub opened : List ℕ → List ℕ
opened [] = []
opened (b ∷ line) = take (length line) (b ∷ line) ++ 59 ∷ []

-- there is room for these answers to one message
abbrev pub HasRoom : List (List ℕ) → Type 0
HasRoom answers = length (answer_line answers) ≤ most_answer_bytes

-- whether there is an answer
abbrev pub has_answers : List (List ℕ) → Bool
has_answers [] = false
has_answers (a ∷ answers) = true

-- an error from -100 to -199
abbrev pub is_command_error : ScpiError → Bool
is_command_error e = nat_le 100 (number_of e) && nat_le (number_of e) 199

-- the unit's answer where the session asked to queue its error: a refusal, unless that ask was not carried out
abbrev pub after_queueing : ScpiError → SessionAnswer → SessionAnswer
after_queueing e Stranger = Stranger
after_queueing e Broken = Broken
after_queueing e (Worn ask) = Worn ask
after_queueing e answer = Refused e

-- The relations below take a trace, which begins with their own entries, and the trace behind those.

-- one ask queues the error, with any answer
abbrev pub Queues : Sid → ScpiError → List Entry → SessionAnswer → List Entry → Type 0
Queues sid e (Asked a r ∷ trace) final rest = (a ≡ Ask.Fault sid e) × (final ≡ after_queueing e r) × (rest ≡ trace)
Queues sid e trace final rest = ⊥

-- The session makes an ask that was held `turn` times. While the desk holds it, the session waits without a limit and
-- makes it again. It gives up, with -221, where the wait ends with Over, or at the last turn.
abbrev pub Settles : Sid → ℕ → SessionAsk → List Entry → SessionAnswer → List Entry → Type 0
Settles sid turn ask (Asked a (Hold b) ∷ Waited None Over ∷ trace) final rest =
    (a ≡ ask) × Queues sid SettingsConflict trace final rest
Settles sid turn ask (Asked a (Hold b) ∷ Waited None (Again left) ∷ trace) final rest =
    (a ≡ ask)
    × MatchBool (turn + 1 == turns)
    (Queues sid SettingsConflict trace final rest)
    (Settles sid (turn + 1) ask trace final rest)
Settles sid turn ask (Asked a (Hold b) ∷ trace) final rest = ⊥
Settles sid turn ask (Asked a r ∷ trace) final rest = (a ≡ ask) × (final ≡ r) × (rest ≡ trace)
Settles sid turn ask trace final rest = ⊥

-- What follows a snapshot. Where its scan may begin the session asks to start it; else it queues the first refusal, or
-- -225 where there is no memory for the plan. Any other answer than a snapshot is the unit's.
abbrev pub Plans : Sid → SessionAnswer → List Entry → SessionAnswer → List Entry → Type 0
Plans sid (Answer.Snapshot s number) trace final rest =
    (IsReady s × Settles sid 0 (Ask.Start sid s) trace final rest)
    ⊎ ((r : Refusal) × IsRefusedScan r s × Queues sid (error_of r) trace final rest)
Plans sid told trace final rest = (final ≡ told) × (rest ≡ trace)

-- INITiate (SCPI-1999, 24): the session asks for a snapshot, and makes the plan outside the mainframe (own)
abbrev pub StartsScan : Sid → List Entry → SessionAnswer → List Entry → Type 0
StartsScan sid trace final rest =
    (told : SessionAnswer) × (mid : List Entry)
    × Settles sid 0 (Ask.Snapshot sid) trace told mid × Plans sid told mid final rest

-- the number of the scan that the plan of a snapshot begins, and how many readings it makes
abbrev pub due_of : SessionAnswer → Option (ℕ × ℕ)
due_of (Answer.Snapshot s number) = Some (next_number number, readings_of s.settings)
due_of told = None

-- What follows the start of a scan by READ?: where it began, the session asks for the readings of the scan with this
-- number, as many as its plan makes. Any other answer is the unit's.
abbrev pub ReadsBack : Sid → Bool → Option (ℕ × ℕ) → SessionAnswer → List Entry → SessionAnswer → List Entry → Type 0
ReadsBack sid answered (Some due) (Done text) trace final rest =
    Settles sid 0 (Ask.Unit sid (Command.ScanReadings due.0 due.1) answered) trace final rest
ReadsBack sid answered due started trace final rest = (final ≡ started) × (rest ≡ trace)

-- READ? (SCPI-1999, volume 2, 3): it starts a scan as INITiate does, and answers its readings when the scan is over
abbrev pub ReadsScan : Sid → Bool → List Entry → SessionAnswer → List Entry → Type 0
ReadsScan sid answered trace final rest =
    (told : SessionAnswer) × (started : SessionAnswer) × (mid : List Entry) × (later : List Entry)
    × Settles sid 0 (Ask.Snapshot sid) trace told mid × Plans sid told mid started later
    × ReadsBack sid answered (due_of told) started later final rest

-- a command that begins a scan: READ?, else INITiate
abbrev pub BeginsScan : Command → Sid → Bool → List Entry → SessionAnswer → List Entry → Type 0
BeginsScan (Command.NoData NoData.Read) sid answered trace final rest = ReadsScan sid answered trace final rest
BeginsScan command sid answered trace final rest = StartsScan sid trace final rest

abbrev pub is_done : SessionAnswer → Bool
is_done (Done text) = true
is_done answer = false

-- a reset that is done switches macros off and keeps them (IEEE 488.2, 10.32)
abbrev pub table_reset : SessionAnswer → Table → Table
table_reset answer t = if is_done answer then record t { on = false } else t

-- the answer of a macro command; its refusal is queued
abbrev pub Reports : Sid → Told → List Entry → SessionAnswer → List Entry → Type 0
Reports sid (Ok text) trace final rest = (final ≡ Done text) × (rest ≡ trace)
Reports sid (Err e) trace final rest = Queues sid e trace final rest

-- the outcome of a unit: its answer, the macros after it, and the trace behind its entries
pub record Begun : Type 0 where
  pub answer : SessionAnswer
  pub macros : Table
  pub rest : List Entry

abbrev pub begun_with : SessionAnswer → Table → List Entry → Begun
begun_with answer macros rest = record { answer = answer; macros = macros; rest = rest }

abbrev pub effect_of : Action → Effect
effect_of (AtOnce effect) = effect
effect_of (BetweenScans effect) = effect
effect_of (AfterScan effect) = effect

-- whether a session carries a command out by itself: one of macros, INITiate, READ?, or *RST, which switches macros
-- off
abbrev pub is_own : Command → Bool
is_own (Command.NoData NoData.Initiate) = true
is_own (Command.NoData NoData.Read) = true
is_own (Command.NoData NoData.Reset) = true
is_own (Command.Macros ask) = true
is_own (Command.Macro ask) = true
is_own command = false

-- whether a query clears what it reads out of the status (IEEE 488.2, 11.5.1.2; SCPI-1999, 20 and 21.8)
abbrev pub reads_out : Command → Bool
reads_out (Command.DestructiveQuery read) = true
reads_out command = false

-- A command by what it does: a macro command changes the macros and asks nothing else, INITiate and READ? start a scan,
-- and any other is asked. A query that clears what it reads isn't asked where there is no memory for its answer; -225
-- is queued then.
abbrev pub BeginsBy : Effect → Sid → Bool → Command → Table → List Entry → Begun → Type 0
BeginsBy IsOfMacros sid answered command t trace b =
    (told : Told) × ActsOnMacros command t told b.macros × Reports sid told trace b.answer b.rest
BeginsBy Initiates sid answered command t trace b =
    BeginsScan command sid answered trace b.answer b.rest × (b.macros ≡ t)
BeginsBy Resets sid answered command t trace b =
    Settles sid 0 (Ask.Unit sid command answered) trace b.answer b.rest × (b.macros ≡ table_reset b.answer t)
BeginsBy (ReadsOut text after) sid answered command t trace b =
    (Settles sid 0 (Ask.Unit sid command answered) trace b.answer b.rest ⊎ Queues sid OutOfMemory trace b.answer b.rest)
    × (b.macros ≡ t)
BeginsBy effect sid answered command t trace b =
    Settles sid 0 (Ask.Unit sid command answered) trace b.answer b.rest × (b.macros ≡ t)

-- how a command or an error is carried out, with these macros; `answered`: the message has answered before
abbrev pub Begins : Sid → Bool → Result Command ScpiError → Table → List Entry → Begun → Type 0
Begins sid answered (Ok command) t trace b =
    BeginsBy (effect_of (action_of answered command)) sid answered command t trace b
Begins sid answered (Err e) t trace b = Queues sid e trace b.answer b.rest × (b.macros ≡ t)

-- whether the message continues after an answer
abbrev pub after_unit : SessionAnswer → AfterUnit
after_unit (Done text) = Goes
after_unit (Refused e) = if is_command_error e then Drops else Goes
after_unit answer = Ends

-- A text joins the answers so far. Where there is no room or no memory for it, -225 is queued in its place.
abbrev pub Concludes : Sid → List (List ℕ) → SessionAnswer → List Entry → AfterUnit → List (List ℕ) → List Entry
    → Type 0
Concludes sid answers (Done (Some text)) trace after answers' rest =
    ((after ≡ Goes) × (answers' ≡ answers ++ text ∷ []) × (rest ≡ trace) × HasRoom (answers ++ text ∷ []))
    ⊎ ((final : SessionAnswer)
    × Queues sid OutOfMemory trace final rest × (after ≡ after_unit final) × (answers' ≡ answers))
Concludes sid answers answer trace after answers' rest =
    (after ≡ after_unit answer) × (answers' ≡ answers) × (rest ≡ trace)

-- the state of a session within a message: the path below which the next header is looked up, its macros, the answers
-- so far, and the trace that is still to come
pub record Standing : Type 0 where
  pub path : Nodes
  pub macros : Table
  pub answers : List (List ℕ)
  pub trace : List Entry

abbrev pub standing : Nodes → Table → List (List ℕ) → List Entry → Standing
standing path macros answers trace = record { path = path; macros = macros; answers = answers; trace = trace }

-- one unit, which is this command or error, from the state before it to the state after it; the path stays
abbrev pub ServesUnit : Sid → Result Command ScpiError → Standing → AfterUnit → Standing → Type 0
ServesUnit sid command s after s' =
    (final : SessionAnswer) × (mid : List Entry)
    × Begins sid (has_answers s.answers) command s.macros s.trace (begun_with final s'.macros mid)
    × Concludes sid s.answers final mid after s'.answers s'.trace × (s'.path ≡ s.path)

-- How the message continues after a unit, from the state after it: with the next unit, or not at all. Where it does
-- not, the outcome of that unit is the outcome of the message.
abbrev pub Proceeds : (Standing → Type 0) → AfterUnit → Standing → AfterUnit → Standing → Type 0
Proceeds on Goes told after s' = on told
Proceeds on Drops told after s' = (after ≡ Drops) × (s' ≡ told)
Proceeds on Ends told after s' = (after ≡ Ends) × (s' ≡ told)

-- a way to carry a unit out, from the state before it to the state after it
abbrev pub Way : Type 1
Way = UnitSeen → Standing → AfterUnit → Standing → Type 0

-- These units are carried out in this way, one after another, from this state. Where the text ends at a byte that fits
-- no form, that error is queued. While the message continues its text is read to the end.
abbrev pub Talks : Way → Sid → List UnitSeen → Ending → Standing → AfterUnit → Standing → Type 0
Talks way sid [] Complete s after s' = (after ≡ Goes) × (s' ≡ s)
Talks way sid [] (EndsRefused e) s after s' = ServesUnit sid (Err e) s after s'
Talks way sid [] EndsUnread s after s' = ⊥
Talks way sid (u ∷ us) ending s after s' =
    (step : AfterUnit) × (told : Standing)
    × way u s step told × Proceeds (λ so_far. Talks way sid us ending so_far after s') step told after s'

-- a unit as it is written: its command or its refusal is carried out, and it leaves this path
abbrev pub Itself : Sid → Way
Itself sid u s after s' =
    (command : Result Command ScpiError) × (path : Nodes)
    × Resolves u s.path command path × ServesUnit sid command (record s { path = path }) after s'

-- An expansion in a unit's place: its text is read by itself, and each of its units is carried out as it is written. A
-- fault is queued.
abbrev pub TalksExpansion : Sid → Result (List ℕ) ScpiError → Standing → AfterUnit → Standing → Type 0
TalksExpansion sid (Ok text) s after s' =
    (units : List UnitSeen) × (ending : Ending)
    × IsScript text units ending × Talks (Itself sid) sid units ending s after s'
TalksExpansion sid (Err e) s after s' = ServesUnit sid (Err e) s after s'

-- the text that replaces a unit which calls a macro, or the first fault, or want of memory. It does not depend on how
-- the unit is written.
abbrev pub IsExpansion : Table → UnitSeen → Result (List ℕ) ScpiError → Type 0
IsExpansion t u r = ((written : List ℕ) × Expands t u written r) ⊎ (r ≡ Err OutOfMemory)

-- a unit of a message: its expansion where it calls a macro, else itself (IEEE 488.2, 10.7)
abbrev pub Expanded : Sid → Way
Expanded sid u s after s' =
    MatchBool (calls s.macros u)
    ((r : Result (List ℕ) ScpiError) × IsExpansion s.macros u r × TalksExpansion sid r s after s')
    (Itself sid u s after s')

-- what is written for a message
abbrev pub written : AfterUnit → List (List ℕ) → List ℕ
written Goes answers = answer_line answers
written Drops answers = answer_line answers
written Ends answers = []

-- As far as the answers tell, the session lasts: it is not being cleared, is joined still, and more can be numbered.
abbrev pub lasts_after : AfterUnit → Bool
lasts_after Goes = true
lasts_after Drops = true
lasts_after Ends = false

-- a message that is too long is dropped whole
abbrev pub Overruns : Sid → List Entry → List ℕ → Bool → Type 0
Overruns sid trace bytes lasts =
    (final : SessionAnswer) × Queues sid InputBufferOverrun trace final [] × (bytes ≡ [])
    × (lasts ≡ lasts_after (after_unit final))

-- the units of a message are carried out from the root, and nothing else is asked
pub record TalksUnits (sid : Sid) (macros : Table) (text : List ℕ) (trace : List Entry) (bytes : List ℕ)
    (lasts : Bool) (macros' : Table) : Type 0 where
  pub units : List UnitSeen
  pub ending : Ending
  pub script : IsScript text units ending
  pub after : AfterUnit
  pub path : Nodes
  pub answers : List (List ℕ)
  pub talks :
      Talks (Expanded sid) sid units ending (standing [] macros [] trace) after (standing path macros' answers [])
  pub writes : bytes ≡ written after answers
  pub lasts_is : lasts ≡ lasts_after after

-- A message without its line feed is carried out, from these macros to those after it; whether the session lasts.
abbrev pub TalksMessage : Sid → Table → List ℕ → List Entry → List ℕ → Bool → Table → Type 0
TalksMessage sid macros text trace bytes lasts macros' =
    MatchBool (nat_lt most_bytes (length text))
    (Overruns sid trace bytes lasts × (macros' ≡ macros))
    (TalksUnits sid macros text trace bytes lasts macros')

-- the state of a session between two messages: its desk and its macros
pub record TalkState (D : Type 0) : Type 0 where
  pub desk : D
  pub macros : Table

abbrev pub state : {D : Type 0} → D → Table → TalkState D
state desk macros = record { desk = desk; macros = macros }

-- A session's message is carried out, from one state to another, and these bytes are written. One line feed at the
-- message's end is dropped.
pub record Talked {D : Type 0} (passes : D → Entry → D → Type 0) (sid : Sid) (old : TalkState D)
    (message bytes : List ℕ) (new : TalkState D) : Type 0 where
  pub trace : List Entry
  pub leads : Leads passes old.desk trace new.desk
  pub lasts : Bool
  pub talks : TalksMessage sid old.macros (strip_last 10 message) trace bytes lasts new.macros

-- The clauses of the talker's parts.

-- the state of a talker within a message: its desk, the path, its macros, and the line that is written so far
pub record TalkerStanding (D : Type 0) : Type 0 where
  pub desk : D
  pub path : Nodes
  pub macros : Table
  pub line : List ℕ

abbrev pub talker_at : {D : Type 0} → D → Nodes → Table → List ℕ → TalkerStanding D
talker_at desk path macros line = record { desk = desk; path = path; macros = macros; line = line }

-- its session's state, with these answers and this trace
abbrev pub stands_at : {D : Type 0} → TalkerStanding D → List (List ℕ) → List Entry → Standing
stands_at p answers trace = standing p.path p.macros answers trace

-- a part takes a line of answers to a line of answers
abbrev pub OnLine : {D : Type 0} → (D → Entry → D → Type 0) → TalkerStanding D → TalkerStanding D
    → (Standing → Standing → Type 0) → Type 0
OnLine passes a b part =
    (answers : List (List ℕ)) → a.line ≡ answer_line answers
    → (answers' : List (List ℕ)) × (b.line ≡ answer_line answers')
    × Led passes a.desk b.desk (λ trace rest. part (stands_at a answers trace) (stands_at b answers' rest))

-- the units of a text are carried out in this way
abbrev pub TalksLine : {D : Type 0} → Way → (D → Entry → D → Type 0) → Sid → List ℕ → TalkerStanding D → AfterUnit
    → TalkerStanding D → Type 0
TalksLine way passes sid text a after b =
    (answers : List (List ℕ)) → a.line ≡ answer_line answers
    → (units : List UnitSeen) × (ending : Ending) × (answers' : List (List ℕ))
    × IsScript text units ending × (b.line ≡ answer_line answers')
    × Led passes a.desk b.desk
    (λ trace rest. Talks way sid units ending (stands_at a answers trace) after (stands_at b answers' rest))

-- a unit's answer joins the line
abbrev pub ConcludesLine : {D : Type 0} → (D → Entry → D → Type 0) → Sid → SessionAnswer → TalkerStanding D → AfterUnit
    → TalkerStanding D → Type 0
ConcludesLine passes sid answer a after b =
    (answers : List (List ℕ)) → a.line ≡ answer_line answers
    → (answers' : List (List ℕ)) × (b.line ≡ answer_line answers')
    × Led passes a.desk b.desk (λ trace rest. Concludes sid answers answer trace after answers' rest)

-- a text joins the answers that are written, and there is room for it
abbrev pub JoinsLine : List ℕ → List ℕ → List ℕ → Type 0
JoinsLine out text out' = (answers : List (List ℕ)) → out ≡ answer_line answers
    → (out' ≡ answer_line (answers ++ text ∷ [])) × HasRoom (answers ++ text ∷ [])

-- whether the line that is written has an answer
abbrev pub TellsAnswered : List ℕ → Bool → Type 0
TellsAnswered out answered = (answers : List (List ℕ)) → out ≡ answer_line answers → answered ≡ has_answers answers
