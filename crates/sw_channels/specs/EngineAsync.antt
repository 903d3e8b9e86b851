-- The asynchronous channel: what is asked and said to each message (IVI-6.1 HiSLIP; what is said to be own is this
-- instrument's choice).
use Rattle.std.specs.Prelude.{◌≡◌, ℕ, ◌+◌, ◌==◌, max, nat_lt, nat_le, Bool, true, false, MatchBool, List, [], ◌∷◌, ◌++◌}
use Rattle.std.specs.Prelude.{Option, None, Some, Result, Ok, Err, if◌then◌else◌}
use Rattle.sw_hislip.specs.declared.kind.Kind.{Kind}
use Rattle.sw_hislip.specs.declared.message.Message.{Message}
use Rattle.sw_core.specs.declared.ask.Sid.{Sid}
use Rattle.sw_core.specs.declared.ask.SessionAsk.{SessionAsk}
use Rattle.sw_core.specs.declared.ask.SessionAsk.TheVariants as Ask
use Rattle.sw_core.specs.declared.ask.SessionAnswer.{SessionAnswer}
use Rattle.sw_core.specs.declared.ask.SessionAnswer.TheVariants as Answer
use Rattle.sw_core.specs.declared.ask.SessionAnswer.TheVariants.{Joined, Stranger, Broken, Info, Hold}
use Rattle.sw_talk.specs.declared.desk.View.{View}
use Rattle.sw_talk.specs.declared.desk.Wake.TheVariants.{Again, Over}
use Rattle.sw_channels.specs.declared.refusals.ErrorCode.TheVariants.{UnrecognizedType, UnrecognizedControl}
use Rattle.sw_channels.specs.declared.refusals.ErrorCode.TheVariants.{UnrecognizedVendor}
use Rattle.sw_channels.specs.declared.refusals.FatalCode.TheVariants.{InvalidInitialization}
use Rattle.sw_channels.specs.declared.requests.AsyncRequest.{AsyncRequest}
use Rattle.sw_channels.specs.declared.requests.AsyncRequest.TheVariants as Request
use Rattle.sw_channels.specs.declared.step.Channel.TheVariants.{Asynchronous}
use Rattle.sw_channels.specs.declared.step.Reply.{Reply}
use Rattle.sw_channels.specs.Said.{StepSeen}
use Rattle.sw_channels.specs.EngineKinds.{async_request}
use Rattle.sw_channels.specs.EngineMessages.{plain, error_message, second_welcome, size_told, size_response}
use Rattle.sw_channels.specs.EngineMessages.{tells_delivery}
use Rattle.sw_channels.specs.EngineMessages.{status_byte, lock_info}
use Rattle.sw_channels.specs.EngineStep.{goes, over, reply_step, says, fails, Unasked, OnDone}
use Rattle.sw_talk.specs.Talk.{turns}
use Rattle.sw_talk.specs.Trace.{Entry, Asked, Waited, Polled, Noted}

-- the state of the channel: its session, and how many service requests there were at the last one that was said, and at
-- the last status query
pub record AsyncStanding : Type 0 where
  pub sid : Sid
  pub told : ℕ
  pub polled : ℕ

abbrev pub second_channel : Sid → ℕ → AsyncStanding
second_channel sid requests = record { sid = sid; told = requests; polled = requests }

-- this message is said on the asynchronous channel
abbrev pub replies : Message → StepSeen
replies m = says Asynchronous m

-- ---- the first message

-- what is said to an answer to Attach: the channel is the second one of that session, and counts requests from here; a
-- number without such a session is a fault of initialization
abbrev pub AttachesBy : SessionAnswer → List Entry → StepSeen → Option AsyncStanding → Type 0
AttachesBy (Joined sid) (Polled p view ∷ []) step s' = (p ≡ sid) × (step ≡ replies second_welcome)
    × (s' ≡ Some (second_channel sid view.requests))
AttachesBy (Joined sid) asked step s' = ⊥
AttachesBy Stranger asked step s' = Unasked (fails Asynchronous InvalidInitialization) asked step × (s' ≡ None)
AttachesBy answer asked step s' = Unasked over asked step × (s' ≡ None)

-- AsyncInitialize with this session number
abbrev pub AsksToAttach : ℕ → List Entry → StepSeen → Option AsyncStanding → Type 0
AsksToAttach number (Asked a answer ∷ asked) step s' = (a ≡ Ask.Attach number) × AttachesBy answer asked step s'
AsksToAttach number [] step s' = ⊥
AsksToAttach number (e ∷ asked) step s' = ⊥

-- nothing is asked, and the fault of initialization is said
abbrev pub MisbeginsSecond : List Entry → StepSeen → Option AsyncStanding → Type 0
MisbeginsSecond asked step s' = Unasked (fails Asynchronous InvalidInitialization) asked step × (s' ≡ None)

abbrev pub is_second : Kind → Bool
is_second Kind.AsyncInitialize = true
is_second kind = false

-- a number above 255 is no session's
abbrev pub AttachesNumber : ℕ → List Entry → StepSeen → Option AsyncStanding → Type 0
AttachesNumber parameter asked step s' =
    MatchBool (nat_le parameter 255) (AsksToAttach parameter asked step s') (MisbeginsSecond asked step s')

-- the first message has to be an AsyncInitialize
abbrev pub OpensAsync : Kind → ℕ → List Entry → StepSeen → Option AsyncStanding → Type 0
OpensAsync kind parameter asked step s' =
    MatchBool (is_second kind) (AttachesNumber parameter asked step s') (MisbeginsSecond asked step s')

-- what is said by the code's result: the second channel of a session, or a reply without one
abbrev pub attached_step : Result AsyncStanding Reply → StepSeen
attached_step (Ok s) = replies second_welcome
attached_step (Err reply) = reply_step Asynchronous reply

abbrev pub attached_session : Result AsyncStanding Reply → Option AsyncStanding
attached_session (Ok s) = Some s
attached_session (Err reply) = None

-- ---- locks

-- the response to an ask for a lock, by its code; without one the channel ends
abbrev pub lock_reply : Option ℕ → StepSeen
lock_reply (Some code) = replies (plain Kind.AsyncLockResponse code 0)
lock_reply None = over

-- the code in an answer; while the session is being cleared the ask is an error, 3 (own)
abbrev pub lock_code : SessionAnswer → Option ℕ
lock_code (Answer.Lock code) = Some code
lock_code Broken = Some 3
lock_code answer = None

-- The channel asks for a lock by an ask that was held `turn` times. While the desk holds it, the channel waits and asks
-- again; each wait has what the last one left of the limit. After Over, or at the last turn, the code is 0: not in
-- time.
abbrev pub AwaitsLock : ℕ → SessionAsk → Option ℕ → List Entry → Option ℕ → Type 0
AwaitsLock turn ask limit (Asked a (Hold b) ∷ Waited l Over ∷ []) code = (a ≡ ask) × (l ≡ limit) × (code ≡ Some 0)
AwaitsLock turn ask limit (Asked a (Hold b) ∷ Waited l (Again left) ∷ asked) code =
    (a ≡ ask) × (l ≡ limit)
    × MatchBool (turn + 1 == turns) ((asked ≡ []) × (code ≡ Some 0)) (AwaitsLock (turn + 1) ask left asked code)
AwaitsLock turn ask limit (Asked a (Hold b) ∷ asked) code = ⊥
AwaitsLock turn ask limit (Asked a answer ∷ []) code = (a ≡ ask) × (code ≡ lock_code answer)
AwaitsLock turn ask limit asked code = ⊥

-- control code 1: a lock by this key, exclusive for an empty one, within `limit` milliseconds
abbrev pub AsksLock : Sid → List ℕ → ℕ → List Entry → StepSeen → Type 0
AsksLock sid key limit asked step = (code : Option ℕ) × AwaitsLock 0 (Ask.Lock sid key) (Some limit) asked code
    × (step ≡ lock_reply code)

-- control code 0: a lock is released
abbrev pub ReleasesLock : Sid → List Entry → StepSeen → Type 0
ReleasesLock sid (Asked a answer ∷ []) step = (a ≡ Ask.Release sid) × (step ≡ lock_reply (lock_code answer))
ReleasesLock sid asked step = ⊥

-- another control code
abbrev pub miscontrolled : StepSeen
miscontrolled = replies (error_message UnrecognizedControl)

abbrev pub AsksForLock : Sid → Message → List Entry → StepSeen → Type 0
AsksForLock sid m asked step =
    MatchBool (m.control == 1) (AsksLock sid m.payload m.parameter asked step)
    (MatchBool (m.control == 0) (ReleasesLock sid asked step) (Unasked miscontrolled asked step))

-- whether a session holds the exclusive lock, and how many sessions hold a lock
abbrev pub info_reply : SessionAnswer → StepSeen
info_reply (Info exclusive holders) = replies (lock_info exclusive holders)
info_reply answer = over

abbrev pub TellsLocks : Sid → List Entry → StepSeen → Type 0
TellsLocks sid (Asked a answer ∷ []) step = (a ≡ Ask.LockInfo sid) × (step ≡ info_reply answer)
TellsLocks sid asked step = ⊥

-- ---- remote and local control

-- the codes 0 to 6 are acknowledged, and have no effect (own)
abbrev pub control_reply : ℕ → StepSeen
control_reply control = if nat_le control 6 then replies (plain Kind.AsyncRemoteLocalResponse 0 0) else miscontrolled

-- ---- status

-- once the client has taken an answer whole, none is available
abbrev pub delivered : Sid → ℕ → List Entry
delivered sid control = if tells_delivery control then Noted sid false ∷ [] else []

-- the status byte is said, with RQS where there were more requests than at the last status query
pub record TellsStatus (s : AsyncStanding) (control : ℕ) (asked : List Entry) (step : StepSeen)
    (s' : AsyncStanding) : Type 0 where
  pub view : View
  pub asks : asked ≡ delivered s.sid control ++ Polled s.sid view ∷ []
  pub tells : step ≡ replies
      (plain Kind.AsyncStatusResponse (status_byte view.byte view.mav (nat_lt s.polled view.requests)) 0)
  pub counts : s' ≡ record s { polled = max s.polled view.requests }

-- The channel says a service request where there were more of them than at the last one that it said.
abbrev pub notice_of : AsyncStanding → View → Option Message
notice_of s view =
    if nat_lt s.told view.requests
    then Some (plain Kind.AsyncServiceRequest (status_byte view.byte view.mav true) 0)
    else None

abbrev pub noticed : AsyncStanding → View → AsyncStanding
noticed s view = record s { told = max s.told view.requests }

-- ---- all messages after the first

-- what a message says and asks that leaves the channel's state as it is
abbrev pub RepliesAsync : AsyncRequest → Sid → Message → List Entry → StepSeen → Type 0
RepliesAsync Request.Size sid m asked step =
    OnDone (Ask.Size sid (size_told m.payload)) Asynchronous size_response asked step
RepliesAsync Request.Lock sid m asked step = AsksForLock sid m asked step
RepliesAsync Request.LockInfo sid m asked step = TellsLocks sid asked step
RepliesAsync Request.RemoteLocal sid m asked step = Unasked (control_reply m.control) asked step
RepliesAsync Request.Clear sid m asked step =
    OnDone (Ask.Clear sid) Asynchronous (plain Kind.AsyncDeviceClearAcknowledge 0 0) asked step
RepliesAsync Request.Leave sid m asked step = Unasked over asked step
RepliesAsync Request.Nothing sid m asked step = Unasked (goes []) asked step
RepliesAsync Request.Initialize sid m asked step = Unasked (fails Asynchronous InvalidInitialization) asked step
RepliesAsync Request.Vendor sid m asked step = Unasked (replies (error_message UnrecognizedVendor)) asked step
RepliesAsync Request.Misplaced sid m asked step = Unasked (replies (error_message UnrecognizedType)) asked step
RepliesAsync Request.Status sid m asked step = ⊥

abbrev pub TakesAsyncBy : AsyncRequest → AsyncStanding → Message → List Entry → StepSeen → AsyncStanding → Type 0
TakesAsyncBy Request.Status s m asked step s' = TellsStatus s m.control asked step s'
TakesAsyncBy request s m asked step s' = RepliesAsync request s.sid m asked step × (s' ≡ s)

-- one message of the asynchronous channel
abbrev pub TakesAsync : AsyncStanding → Message → List Entry → StepSeen → AsyncStanding → Type 0
TakesAsync s m asked step s' = TakesAsyncBy (async_request m.kind) s m asked step s'
