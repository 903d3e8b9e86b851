-- The synchronous channel: what is asked and said to each message (IVI-6.1 HiSLIP, synchronized mode; when MAV is set
-- and cleared, what interrupts and what a device clear drops is own).
use Rattle.std.specs.Prelude.{◌≡◌, ℕ, ◌⊎◌, Bool, true, false, MatchBool, List, [], ◌∷◌, ◌++◌, map, Option, None}
use Rattle.std.specs.Prelude.{Some, Result, Ok, Err, if◌then◌else◌, take}
use Rattle.std.specs.Io.BufRead.{strip_last}
use Rattle.sw_base.specs.declared.error.ScpiError.TheVariants.{GetNotAllowed, QueryInterrupted}
use Rattle.sw_hislip.specs.declared.kind.Kind.{Kind}
use Rattle.sw_hislip.specs.declared.message.Message.{Message}
use Rattle.sw_macro.specs.Table.{Table, no_macros}
use Rattle.sw_core.specs.declared.ask.Sid.{Sid}
use Rattle.sw_core.specs.declared.ask.SessionAsk.TheVariants as Ask
use Rattle.sw_core.specs.declared.ask.SessionAnswer.{SessionAnswer}
use Rattle.sw_core.specs.declared.ask.SessionAnswer.TheVariants.{Joined, Full, Missed, Max, Done}
use Rattle.sw_channels.specs.declared.partial_message.PartialMessage.{PartialMessage}
use Rattle.sw_channels.specs.declared.refusals.ErrorCode.TheVariants.{UnrecognizedType, UnrecognizedVendor}
use Rattle.sw_channels.specs.declared.refusals.FatalCode.TheVariants.{WithoutBothChannels, InvalidInitialization}
use Rattle.sw_channels.specs.declared.refusals.FatalCode.TheVariants.{TooManyClients}
use Rattle.sw_channels.specs.declared.requests.SyncRequest.{SyncRequest}
use Rattle.sw_channels.specs.declared.requests.SyncRequest.TheVariants as Request
use Rattle.sw_channels.specs.declared.step.Channel.TheVariants.{Synchronous, Asynchronous}
use Rattle.sw_channels.specs.declared.step.Reply.{Reply}
use Rattle.sw_channels.specs.declared.step.Sent.{Sent}
use Rattle.sw_channels.specs.declared.synchronous.Delivery.{Delivery}
use Rattle.sw_channels.specs.Said.{StepSeen}
use Rattle.sw_channels.specs.EngineKinds.{sync_request}
use Rattle.sw_channels.specs.EngineMessages.{plain, error_message, welcome, IsSubAddress, IsCut, room_of}
use Rattle.sw_channels.specs.EngineMessages.{tells_delivery}
use Rattle.sw_channels.specs.EngineStep.{on, goes, reply_step, over, says, fails, joined, Unasked, is_gone}
use Rattle.sw_base.specs.Limits.{most_kept}
use Rattle.sw_talk.specs.Talk.{TalksMessage, Settles, Queues, is_done}
use Rattle.sw_talk.specs.Trace.{Entry, Asked, Polled, Noted}

-- the state of the channel: its session, the session's macros, whether its second channel was seen to be open, and the
-- part that has come of a program message without its end
pub record SyncStanding : Type 0 where
  pub sid : Sid
  pub macros : Table
  pub attached : Bool
  pub partial : PartialMessage

abbrev pub newly_joined : Sid → SyncStanding
newly_joined sid = record { sid = sid; macros = no_macros; attached = false; partial = PartialMessage.Nothing }

-- this message is said on the synchronous channel
abbrev pub responds : Message → StepSeen
responds m = says Synchronous m

-- ---- the first message

-- what is said to an answer to Join
abbrev pub joins_step : ℕ → SessionAnswer → StepSeen
joins_step parameter (Joined sid) = responds (welcome parameter sid.number)
joins_step parameter Full = fails Synchronous TooManyClients
joins_step parameter answer = over

abbrev pub joins_session : SessionAnswer → Option SyncStanding
joins_session (Joined sid) = Some (newly_joined sid)
joins_session answer = None

-- what is said by the code's result: the session that was joined, or a reply without one
abbrev pub opened_step : ℕ → Result Sid Reply → StepSeen
opened_step parameter (Ok sid) = responds (welcome parameter sid.number)
opened_step parameter (Err reply) = reply_step Synchronous reply

abbrev pub opened_session : Result Sid Reply → Option SyncStanding
opened_session (Ok sid) = Some (newly_joined sid)
opened_session (Err reply) = None

-- Initialize: the channel asks for a session
abbrev pub AsksToJoin : ℕ → List Entry → StepSeen → Option SyncStanding → Type 0
AsksToJoin parameter (Asked a answer ∷ []) step s' = (a ≡ Ask.Join) × (step ≡ joins_step parameter answer)
    × (s' ≡ joins_session answer)
AsksToJoin parameter asked step s' = ⊥

abbrev pub is_first : Kind → Bool
is_first Kind.Initialize = true
is_first kind = false

abbrev pub MisbeginsFirst : List Entry → StepSeen → Option SyncStanding → Type 0
MisbeginsFirst asked step s' = Unasked (fails Synchronous InvalidInitialization) asked step × (s' ≡ None)

-- the payload has to be a sub-address
abbrev pub JoinsAt : List ℕ → ℕ → List Entry → StepSeen → Option SyncStanding → Type 0
JoinsAt payload parameter asked step s' =
    (IsSubAddress payload × AsksToJoin parameter asked step s')
    ⊎ ((IsSubAddress payload → ⊥) × MisbeginsFirst asked step s')

-- the first message has to be an Initialize
abbrev pub OpensSync : Message → List Entry → StepSeen → Option SyncStanding → Type 0
OpensSync m asked step s' =
    MatchBool (is_first m.kind) (JoinsAt m.payload m.parameter asked step s') (MisbeginsFirst asked step s')

-- ---- before a message of a program

-- The parts below take a list of calls, which begins with their own, and the calls behind those.

-- what is said to an answer to Attached: a FatalError where the session has no second channel
abbrev pub attended : SessionAnswer → StepSeen
attended (Done text) = goes []
attended Missed = fails Synchronous WithoutBothChannels
attended answer = over

-- the reply to a message that is not served
abbrev pub gate_step : Option Reply → StepSeen
gate_step None = goes []
gate_step (Some reply) = reply_step Synchronous reply

-- until the second channel was seen to be open, the channel asks whether it is
abbrev pub Attends : Bool → Sid → List Entry → StepSeen → List Entry → Type 0
Attends true sid asked step rest = (step ≡ goes []) × (rest ≡ asked)
Attends false sid (Asked a answer ∷ asked) step rest = (a ≡ Ask.Attached sid) × (step ≡ attended answer)
    × (rest ≡ asked)
Attends false sid asked step rest = ⊥

-- the messages of an interrupt, each on its channel, with the identifier of the message that interrupts
abbrev pub interruption : ℕ → List Sent
interruption id = on Asynchronous (plain Kind.AsyncInterrupted 0 id) ∷ on Synchronous (plain Kind.Interrupted 0 id) ∷ []

-- what is said to interrupt, by the answer to its error
abbrev pub interrupted : ℕ → SessionAnswer → StepSeen
interrupted id answer = if is_gone answer then over else goes (interruption id)

-- what is said of the last answer: the interrupt, where it was interrupted
abbrev pub said_by_delivery : ℕ → Delivery → List Sent
said_by_delivery id Delivery.Interrupted = interruption id
said_by_delivery id delivery = []

-- the step for the last answer, by what became of it
abbrev pub delivery_step : ℕ → Delivery → StepSeen
delivery_step id Delivery.Quiet = goes []
delivery_step id Delivery.Interrupted = goes (interruption id)
delivery_step id Delivery.Gone = over

-- the answer that is available is dropped, and -410 is queued
abbrev pub Interrupts : Sid → ℕ → List Entry → StepSeen → List Entry → Type 0
Interrupts sid id (Noted p mav ∷ Asked a answer ∷ asked) step rest =
    (p ≡ sid) × (mav ≡ false) × (a ≡ Ask.Fault sid QueryInterrupted) × (step ≡ interrupted id answer) × (rest ≡ asked)
Interrupts sid id asked step rest = ⊥

-- a message that doesn't say that the client took the last answer interrupts one that is available
abbrev pub LooksForAnswer : Sid → ℕ → List Entry → StepSeen → List Entry → Type 0
LooksForAnswer sid id (Polled p view ∷ asked) step rest = (p ≡ sid)
    × MatchBool view.mav (Interrupts sid id asked step rest) ((step ≡ goes []) × (rest ≡ asked))
LooksForAnswer sid id asked step rest = ⊥

-- what the control code says of the last answer
abbrev pub Delivers : Sid → ℕ → ℕ → List Entry → StepSeen → List Entry → Type 0
Delivers sid control id asked step rest =
    MatchBool (tells_delivery control) ((asked ≡ Noted sid false ∷ rest) × (step ≡ goes []))
    (LooksForAnswer sid id asked step rest)

-- ---- program messages

-- a message with one more part; no more of it is kept than shows whether it is too long (own)
abbrev pub with_part : PartialMessage → List ℕ → PartialMessage
with_part PartialMessage.Nothing bytes = PartialMessage.Kept (take most_kept bytes)
with_part (PartialMessage.Kept partial) bytes = PartialMessage.Kept (take most_kept (partial ++ bytes))
with_part PartialMessage.Lost bytes = PartialMessage.Lost

-- what is kept of a message; none where a part of it was skipped
abbrev pub kept_of : PartialMessage → Option (List ℕ)
kept_of (PartialMessage.Kept bytes) = Some bytes
kept_of partial = None

-- the same once its last part is there
abbrev pub whole : PartialMessage → List ℕ → Option (List ℕ)
whole partial bytes = kept_of (with_part partial bytes)

-- An answer is said under this identifier, cut to the client's size; an empty one is not said. Where the session has
-- ended, or no event can be numbered any more, the channel ends.
abbrev pub CutsTo : ℕ → ℕ → List ℕ → List Message → Type 0
CutsTo size id [] parts = parts ≡ []
CutsTo size id (b ∷ bytes) parts = IsCut (room_of size) id (b ∷ bytes) parts

abbrev pub Answers : ℕ → List ℕ → SessionAnswer → StepSeen → Type 0
Answers id bytes (Max size) step = (parts : List Message) × CutsTo size id bytes parts
    × (step ≡ goes (map (on Synchronous) parts))
Answers id bytes told step = step ≡ over

-- The client's size is asked, and the answer is said.
abbrev pub AsksSize : Sid → ℕ → List ℕ → List Entry → StepSeen → Type 0
AsksSize sid id bytes asked step =
    (told : SessionAnswer) × (asked ≡ Asked (Ask.MaxSize sid) told ∷ []) × Answers id bytes told step

-- Nothing more is asked where there is no answer, and the session lasts as far as the talk told.
abbrev pub SaysAnswer : Sid → ℕ → List ℕ → Bool → List Entry → StepSeen → Type 0
SaysAnswer sid id [] true asked step = Unasked (goes []) asked step
SaysAnswer sid id [] false asked step = AsksSize sid id [] asked step
SaysAnswer sid id (b ∷ bytes) lasts asked step = AsksSize sid id (b ∷ bytes) asked step

-- A whole program message is carried out. Then the channel says the answer.
pub record Converses (s : SyncStanding) (id : ℕ) (text : List ℕ) (asked : List Entry) (step : StepSeen)
    (macros : Table) : Type 0 where
  pub talk : List Entry
  pub rest : List Entry
  pub asks : asked ≡ talk ++ rest
  pub bytes : List ℕ
  pub lasts : Bool
  pub talks : TalksMessage s.sid s.macros (strip_last 10 text) talk bytes lasts macros
  pub says : SaysAnswer s.sid id bytes lasts rest step

-- DataEnd: the message is whole, or is dropped whole
abbrev pub Finishes : SyncStanding → ℕ → Option (List ℕ) → List Entry → StepSeen → SyncStanding → Type 0
Finishes s id None asked step s' = Unasked (goes []) asked step × (s' ≡ record s { partial = PartialMessage.Nothing })
Finishes s id (Some text) asked step s' = Converses s id text asked step s'.macros
    × (s' ≡ record s { macros = s'.macros; partial = PartialMessage.Nothing })

-- some part of a program message has come
abbrev pub is_within : PartialMessage → Bool
is_within PartialMessage.Nothing = false
is_within partial = true

-- within a program message a trigger is an error, else it is a bus trigger
abbrev pub GivesTrigger : Bool → Sid → List Entry → SessionAnswer → Type 0
GivesTrigger true sid asked final = Queues sid GetNotAllowed asked final []
GivesTrigger false sid asked final = Settles sid 0 (Ask.Bus sid) asked final []

-- the step for a trigger
abbrev pub trigger_step : SessionAnswer → StepSeen
trigger_step final = record { out = []; ends = is_gone final }

-- Trigger: the part that has come of a program message is dropped
abbrev pub Triggers : Bool → Sid → List Entry → StepSeen → Type 0
Triggers within sid asked step = (final : SessionAnswer) × GivesTrigger within sid asked final
    × (step ≡ trigger_step final)

-- these messages are parts of programs
abbrev pub is_program : SyncRequest → Bool
is_program Request.Part = true
is_program Request.End = true
is_program Request.Trigger = true
is_program request = false

-- What each of these messages does after that. Where memory is short, a part or the end of a program message asks
-- nothing, and no more is promised of it.
abbrev pub Programs : Bool → SyncRequest → SyncStanding → Message → List Entry → StepSeen → SyncStanding → Type 0
Programs false Request.Part s m asked step s' = Unasked (goes []) asked step
    × (s' ≡ record s { partial = with_part s.partial m.payload })
Programs false Request.End s m asked step s' = Finishes s m.parameter (whole s.partial m.payload) asked step s'
Programs false Request.Trigger s m asked step s' = Triggers (is_within s.partial) s.sid asked step
    × (s' ≡ record s { partial = PartialMessage.Nothing })
Programs true Request.Part s m asked step s' = asked ≡ []
Programs true Request.End s m asked step s' = asked ≡ []
Programs short request s m asked step s' = ⊥

-- these messages are said, then those of a further step, which says whether the channel ends
abbrev pub SaysMore : List Sent → StepSeen → (StepSeen → Type 0) → Type 0
SaysMore said step P = (own : StepSeen) × P own × (step ≡ joined (goes said) own)

-- A first step, and the next one unless the first ends the channel; the messages of both are said. Where memory runs
-- out in the next one, the first has not ended the channel.
abbrev pub Onward : Bool → (List Entry → StepSeen → SyncStanding → Type 0) → StepSeen → SyncStanding → List Entry
    → StepSeen → SyncStanding → Type 0
Onward short next first s asked step s' =
    MatchBool first.ends ((short ≡ false) × Unasked first asked step × (s' ≡ s))
    ((second : StepSeen) × next asked second s' × (step ≡ joined first second))

-- Data, DataEnd and Trigger: the second channel has to be open; then the last answer is looked at; then the message is
-- served, unless memory runs out there
abbrev pub Attended : Bool → SyncRequest → SyncStanding → Message → List Entry → StepSeen → SyncStanding → Type 0
Attended short request s m asked step s' =
    (first : StepSeen) × (rest : List Entry) × Delivers s.sid m.control m.parameter asked first rest
    × Onward short (λ calls said t. Programs short request s m calls said t) first s rest step s'

abbrev pub ServesProgram : Bool → SyncRequest → SyncStanding → Message → List Entry → StepSeen → SyncStanding → Type 0
ServesProgram short request s m asked step s' =
    (first : StepSeen) × (rest : List Entry) × Attends s.attached s.sid asked first rest
    × Onward short (λ calls said t. Attended short request (record s { attached = true }) m calls said t) first s rest
    step s'

-- what a row asks in which memory ran out
abbrev pub FallsShort : (List Entry → StepSeen → SyncStanding → Type 0) → List Entry → Type 0
FallsShort row asked = (step : StepSeen) × (s' : SyncStanding) × row asked step s'

-- ---- all messages after the first

-- DeviceClearComplete: the session's commands are taken again, and no answer is available
abbrev pub Completes : Sid → List Entry → StepSeen → Type 0
Completes sid (Asked a answer ∷ asked) step =
    (a ≡ Ask.Cleared sid) × MatchBool (is_done answer)
    ((asked ≡ Noted sid false ∷ []) × (step ≡ responds (plain Kind.DeviceClearAcknowledge 0 0)))
    (Unasked over asked step)
Completes sid asked step = ⊥

-- then the part that has come of a program message is dropped
abbrev pub message_completed : SyncStanding → StepSeen → SyncStanding
message_completed s step = if step.ends then s else record s { partial = PartialMessage.Nothing }

-- what the messages that are no part of a program say
abbrev pub RepliesSync : SyncRequest → SyncStanding → List Entry → StepSeen → SyncStanding → Type 0
RepliesSync Request.ClearComplete s asked step s' = Completes s.sid asked step × (s' ≡ message_completed s step)
RepliesSync Request.Leave s asked step s' = Unasked over asked step × (s' ≡ s)
RepliesSync Request.Nothing s asked step s' = Unasked (goes []) asked step × (s' ≡ s)
RepliesSync Request.Initialize s asked step s' = Unasked (fails Synchronous InvalidInitialization) asked step × (s' ≡ s)
RepliesSync Request.Vendor s asked step s' = Unasked (responds (error_message UnrecognizedVendor)) asked step × (s' ≡ s)
RepliesSync Request.Misplaced s asked step s' =
    Unasked (responds (error_message UnrecognizedType)) asked step × (s' ≡ s)
RepliesSync request s asked step s' = ⊥

abbrev pub TakesSyncBy : SyncRequest → SyncStanding → Message → List Entry → StepSeen → SyncStanding → Type 0
TakesSyncBy request s m asked step s' =
    MatchBool (is_program request) (ServesProgram false request s m asked step s') (RepliesSync request s asked step s')

-- one message of the synchronous channel
abbrev pub TakesSync : SyncStanding → Message → List Entry → StepSeen → SyncStanding → Type 0
TakesSync s m asked step s' = TakesSyncBy (sync_request m.kind) s m asked step s'

-- A message that found no memory has asked a front of what its row asks: nothing, or what a message of a program asks
-- up to where memory ran out.
abbrev pub FaltersSync : SyncStanding → Message → List Entry → Type 0
FaltersSync s m asked = (asked ≡ []) ⊎ FallsShort (ServesProgram true (sync_request m.kind) s m) asked

-- ---- messages that were skipped for their size

-- a skipped part of a program message drops it whole, and a skipped last part ends it
abbrev pub skipped : SyncRequest → PartialMessage → PartialMessage
skipped Request.Part partial = PartialMessage.Lost
skipped Request.End partial = PartialMessage.Nothing
skipped request partial = partial
