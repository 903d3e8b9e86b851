-- A HiSLIP engine as a server asks it (IVI-6.1 HiSLIP; what is said to be own is this instrument's choice).
use Rattle.std.specs.Prelude.{◌≡◌, ℕ, true, false, List, [], ◌∷◌, Option, None, Some, Result}
use Rattle.sw_hislip.specs.declared.message.Message.{Message}
use Rattle.sw_core.specs.declared.ask.Sid.{Sid}
use Rattle.sw_channels.specs.declared.refusals.FatalCode.TheVariants.{PoorlyFormed}
use Rattle.sw_channels.specs.declared.engine.State.{State}
use Rattle.sw_channels.specs.declared.engine.State.TheVariants.{Attached}
use Rattle.sw_channels.specs.declared.step.Channel.{Channel}
use Rattle.sw_channels.specs.declared.step.Channel.TheVariants.{Asynchronous}
use Rattle.sw_channels.specs.Said.{StepSeen}
use Rattle.sw_session.specs.Acts.{Act}
use Rattle.sw_session.specs.declared.fault.ServeFault.{ServeFault}
use Rattle.sw_talk.specs.Trace.{Entry, Polled}
use Rattle.sw_channels.specs.EngineStep.{goes, says, fails, Unasked}
use Rattle.sw_channels.specs.Engine.{EngineStanding, fresh_engine, TakesMessage, Falters, session_of, channel_of_state}
use Rattle.sw_channels.specs.Engine.{too_large, skips}
use Rattle.sw_channels.specs.Engine.{notice_from, noticed_from}
use Rattle.sw_session.specs.ServePoint.{Protocol, voice, point}
use Rattle.sw_session.specs.Serve.{Course, course, ServesAndLeaves}

-- a service request that is said, if any
abbrev pub told_step : Option Message → StepSeen
told_step None = goes []
told_step (Some m) = says Asynchronous m

-- the session whose second channel it is
abbrev pub second_session_of : State → Option Sid
second_session_of (Attached s) = Some s.sid
second_session_of s = None

-- The second channel of a session looks at its status, and says service requests that it has not said yet. Any other
-- channel asks and says nothing.
abbrev pub LooksFor : Option Sid → State → List Entry → StepSeen → State → Type 0
LooksFor (Some sid) s (Polled p view ∷ []) step t = (p ≡ sid) × (step ≡ told_step (notice_from s view))
    × (t ≡ noticed_from s view)
LooksFor (Some sid) s asked step t = ⊥
LooksFor None s asked step t = Unasked (goes []) asked step × (t ≡ s)

abbrev pub Looks : State → List Entry → StepSeen → State → Type 0
Looks s asked step t = LooksFor (second_session_of s) s asked step t

-- What an engine asks and says to an act: to a message what its channel's definition says, to one that was skipped
-- Error 4 (own), to a header that doesn't begin with `HS` FatalError 1; and it says service requests.
abbrev pub EngineSpeaks : EngineStanding → Act → List Entry → StepSeen → EngineStanding → Type 0
EngineSpeaks e (Act.Takes m) asked step f =
    TakesMessage e.state m asked step f.state × (e.spent ≡ false) × (f.spent ≡ false)
EngineSpeaks e (Act.Skips kind) asked step f = Unasked (says (channel_of_state e.state) too_large) asked step
    × (f ≡ record e { state = skips kind e.state })
EngineSpeaks e Act.Refuses asked step f = Unasked (fails (channel_of_state e.state) PoorlyFormed) asked step × (f ≡ e)
EngineSpeaks e Act.Notices asked step f = Looks e.state asked step f.state × (f.spent ≡ e.spent)

-- What it may have asked where it found no memory: to a message what the engine says, and else nothing.
abbrev pub EngineFalters : EngineStanding → Act → List Entry → EngineStanding → Type 0
EngineFalters e (Act.Takes m) asked f = Falters e m asked × (session_of f.state ≡ session_of e.state)
    × (f.spent ≡ true)
EngineFalters e act asked f = (asked ≡ []) × (f ≡ e)

-- the definition of a HiSLIP engine
abbrev pub engine_protocol : Protocol EngineStanding
engine_protocol = record { speaks = EngineSpeaks; falters = EngineFalters; session = λ e. session_of e.state }

-- the state of a channel's server but for its engine: its desk, what is left to be read, how many reads a time limit
-- has ended, and what its two writers hold
pub record Station (D : Type 0) : Type 0 where
  pub desk : D
  pub input : Option (List ℕ)
  pub pauses : Option ℕ
  pub main : Option (List ℕ)
  pub side : Option (List ℕ)

-- with this engine
abbrev pub manned : {D : Type 0} → EngineStanding → Station D → Course EngineStanding D
manned e t = course (point e t.desk t.main t.side) t.input t.pauses

-- A server of one channel, from its first byte on: an engine on which nothing has come is served.
pub record ServesChannel {D : Type 0} (passes : D → Entry → D → Type 0) (own : Channel) (turns : ℕ)
    (before after : Station D) (result : Result (Unit {0}) ServeFault) : Type 0 where
  pub engine : EngineStanding
  pub serves : ServesAndLeaves (voice engine_protocol passes own) turns
      (manned (fresh_engine own) before) (manned engine after) result
