-- A channel of a session: what is asked and said to each message, from the first one on (IVI-6.1 HiSLIP, synchronized
-- mode).
use Rattle.std.specs.Prelude.{◌≡◌, Bool, false, MatchBool, List, [], Option, None, Some}
use Rattle.sw_hislip.specs.declared.kind.Kind.{Kind}
use Rattle.sw_hislip.specs.declared.message.Message.{Message}
use Rattle.sw_core.specs.declared.ask.Sid.{Sid}
use Rattle.sw_talk.specs.declared.desk.View.{View}
use Rattle.sw_channels.specs.declared.refusals.ErrorCode.TheVariants.{TooLarge}
use Rattle.sw_channels.specs.declared.engine.State.{State}
use Rattle.sw_channels.specs.declared.engine.State.TheVariants.{Unopened, Synchronized, Attached}
use Rattle.sw_channels.specs.declared.step.Channel.{Channel}
use Rattle.sw_channels.specs.declared.step.Channel.TheVariants.{Synchronous, Asynchronous}
use Rattle.sw_channels.specs.Said.{StepSeen}
use Rattle.sw_channels.specs.EngineKinds.{sync_request}
use Rattle.sw_channels.specs.EngineMessages.{error_message}
use Rattle.sw_channels.specs.EngineSync.{SyncStanding, OpensSync, TakesSync, FaltersSync, skipped}
use Rattle.sw_channels.specs.EngineAsync.{AsyncStanding, OpensAsync, TakesAsync, notice_of, noticed}
use Rattle.sw_talk.specs.Trace.{Entry}

-- a channel's state, and whether memory ran out at a message of it
pub record EngineStanding : Type 0 where
  pub state : State
  pub spent : Bool

-- no message has come on this channel
abbrev pub fresh_engine : Channel → EngineStanding
fresh_engine channel = record { state = Unopened channel; spent = false }

-- a channel's state after its first message
abbrev pub opened_sync : Option SyncStanding → State
opened_sync None = Unopened Synchronous
opened_sync (Some s) = Synchronized s

abbrev pub opened_async : Option AsyncStanding → State
opened_async None = Unopened Asynchronous
opened_async (Some s) = Attached s

-- one message: the first one opens the channel
abbrev pub TakesMessage : State → Message → List Entry → StepSeen → State → Type 0
TakesMessage (Unopened Synchronous) m asked step s' = (o : Option SyncStanding) × OpensSync m asked step o
    × (s' ≡ opened_sync o)
TakesMessage (Unopened Asynchronous) m asked step s' =
    (o : Option AsyncStanding) × OpensAsync m.kind m.parameter asked step o
    × (s' ≡ opened_async o)
TakesMessage (Synchronized s) m asked step s' = (t : SyncStanding) × TakesSync s m asked step t × (s' ≡ Synchronized t)
TakesMessage (Attached s) m asked step s' = (t : AsyncStanding) × TakesAsync s m asked step t × (s' ≡ Attached t)

-- the session of a channel
abbrev pub session_of : State → Option Sid
session_of (Unopened channel) = None
session_of (Synchronized s) = Some s.sid
session_of (Attached s) = Some s.sid

-- which connection a channel is
abbrev pub channel_of_state : State → Channel
channel_of_state (Unopened channel) = channel
channel_of_state (Synchronized s) = Synchronous
channel_of_state (Attached s) = Asynchronous

-- a message that found no memory: on the first channel of a session it may have asked a front of its row, else nothing
abbrev pub FaltersAt : State → Message → List Entry → Type 0
FaltersAt (Synchronized s) m asked = FaltersSync s m asked
FaltersAt state m asked = asked ≡ []

-- from then on nothing is asked
abbrev pub Falters : EngineStanding → Message → List Entry → Type 0
Falters e m asked = MatchBool e.spent (asked ≡ []) (FaltersAt e.state m asked)

-- the answer to a message with too long a payload (own)
abbrev pub too_large : Message
too_large = error_message TooLarge

-- a skipped part of a program message drops it whole; any other skipped message does nothing else
abbrev pub skips : Kind → State → State
skips kind (Synchronized s) = Synchronized (record s { partial = skipped (sync_request kind) s.partial })
skips kind s = s

-- the second channel sends service requests
abbrev pub notice_from : State → View → Option Message
notice_from (Attached s) view = notice_of s view
notice_from s view = None

abbrev pub noticed_from : State → View → State
noticed_from (Attached s) view = Attached (noticed s view)
noticed_from s view = s
