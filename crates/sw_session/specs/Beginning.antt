-- The beginning of a connection.
use Rattle.std.specs.Prelude.{◌≡◌, ℕ, List, [], Option, None, Some}
use Rattle.sw_hislip.specs.declared.kind.Kind.{Kind}
use Rattle.sw_hislip.specs.declared.kind.Kind.TheVariants.{AsyncInitialize}
use Rattle.sw_hislip.specs.Pending.{IsFrontKind}
use Rattle.sw_channels.specs.declared.step.Channel.{Channel}
use Rattle.sw_channels.specs.declared.step.Channel.TheVariants.{Synchronous, Asynchronous}

-- which channel of a session it is, and the bytes that were heard on it
pub record BeginningSeen : Type 0 where
  pub channel : Channel
  pub bytes : List ℕ

-- a connection that is this channel, on which nothing was heard
abbrev pub nothing_heard : Channel → BeginningSeen
nothing_heard channel = record { channel = channel; bytes = [] }

-- the second channel begins with AsyncInitialize; what begins with any other message is the first one (IVI-6.1 HiSLIP,
-- initialization)
abbrev pub channel_of : Kind → Channel
channel_of AsyncInitialize = Asynchronous
channel_of kind = Synchronous

-- where no header is whole, or none begins with `HS`, it is the first one
abbrev pub channel_by : Option Kind → Channel
channel_by None = Synchronous
channel_by (Some kind) = channel_of kind

-- the channel that the header at the front names
pub record NamesChannel (bytes : List ℕ) (channel : Channel) : Type 0 where
  pub found : Option Kind
  pub front : IsFrontKind bytes found
  pub named : channel ≡ channel_by found
