-- How a connection is served.
use Rattle.std.specs.Prelude.{◌≡◌, ◌⊎◌, ℕ, List, length, Option, None, Some, Result, Ok, Err}
use Rattle.std.specs.Io.KnownBytes.{Consumes, IsAtEnd}
use Rattle.sw_channels.specs.declared.step.Channel.{Channel}
use Rattle.sw_channels.specs.declared.step.Channel.TheVariants.{Synchronous}
use Rattle.sw_session.specs.declared.fault.ServeFault.{ServeFault}
use Rattle.sw_session.specs.declared.fault.ServeFault.TheVariants.{Read, Write}
use Rattle.sw_session.specs.declared.source.ByteSource as ByteSource
use Rattle.sw_session.specs.declared.writing.Sink as Sink
use Rattle.sw_session.specs.ServeRead.{IsLedTo}
use Rattle.sw_talk.specs.Trace.{Entry}
use Rattle.sw_session.specs.ServeEngine.{Station, ServesChannel}
use Rattle.sw_session.specs.Beginning.{NamesChannel}
use Rattle.sw_connections.specs.Admission.{IsUnserved}
use Rattle.sw_connections.specs.Reads.{Waited}
use Rattle.sw_connections.specs.declared.connections.Unserved.{Unserved}

-- such a step was made, between some states
abbrev pub Fails : {S : Type 0} → (S → S → Type 0) → Type 0
Fails step = (old : _) × (new : _) × step old new

-- What failed on a connection: a read failed in its first header, with this left to be read, and with this many reads
-- ended by a time limit; a read failed later; a write failed; what was left to the session's other thread was refused.
pub record Mishaps : Type 1 where
  pub unheard : (rest : Option (List ℕ)) → (pauses : Option ℕ) → Type 0
  pub unread : Type 0
  pub unwritten : Type 0
  pub refused : Type 0

-- a read failed that led to such a reader
pub record Unheard {R : Type 0} (reads : ByteSource.Ghosts R) (rest : Option (List ℕ)) (pauses : Option ℕ)
    : Type 0 where
  pub reader : R
  pub failed : IsLedTo reads.failed reader
  pub rest_is : rest ≡ reads.remaining reader
  pub pauses_is : pauses ≡ reads.pauses reader

-- What the reader, the writer and the second way to the client say of that, as the run leaves them: a failed read led
-- to this reader, a failed write to this writer. The second way is written to before a read, which then fails with it.
abbrev pub mishaps : {R W S : Type 0} → ByteSource.Ghosts R → Sink.Ghosts W → Sink.Ghosts S → (refused : Type 0)
    → (reader : R) → (writer : W) → (aside : S) → Mishaps
mishaps reads writes writes_aside refused reader writer aside = record {
  unheard = Unheard reads;
  unread = IsLedTo reads.failed reader ⊎ IsLedTo writes_aside.failed aside;
  unwritten = IsLedTo writes.failed writer;
  refused = refused;
}

-- the state of a connection's server: its desk, what is left to be read, how many reads a time limit has ended so far,
-- where that is known, and what was written
pub record ConnectionSeen (D : Type 0) : Type 0 where
  pub desk : D
  pub input : Option (List ℕ)
  pub pauses : Option ℕ
  pub output : Option (List ℕ)

abbrev pub connection_seen : {D : Type 0} → D → Option (List ℕ) → Option ℕ → Option (List ℕ) → ConnectionSeen D
connection_seen desk input pauses output = record { desk = desk; input = input; pauses = pauses; output = output }

-- the same as a channel's server that has this with its side writer
abbrev pub beside : {D : Type 0} → Option (List ℕ) → ConnectionSeen D → Station D
beside side a = record { desk = a.desk; input = a.input; pauses = a.pauses; main = a.output; side = side }

-- A connection is served from its first byte on, as the channel that its first header names. The header is whole,
-- unless the input ended or failed in it; time limits may have ended reads in it. After a run that ends by a read
-- fault, a read has failed. After one that ends by a write fault, a write has failed, or else the run is of the first
-- channel, and what it left to the second one was refused.
pub record ServesFromHeader {D : Type 0} (passes : D → Entry → D → Type 0) (m : Mishaps) (turns : ℕ)
    (before after : ConnectionSeen D) (result : Result (Unit {0}) ServeFault) : Type 0 where
  pub header : List ℕ
  pub rest : Option (List ℕ)
  pub begins : Consumes before.input rest header
  pub pauses : Option ℕ
  pub whole : (length header ≡ 16) ⊎ IsAtEnd rest ⊎ m.unheard rest pauses
  pub waited : Waited before.pauses pauses
  pub channel : Channel
  pub names : NamesChannel header channel
  pub side : Option (List ℕ)
  pub side' : Option (List ℕ)
  pub serves : ServesChannel passes channel turns (beside side (record before { pauses = pauses })) (beside side' after)
      result
  pub read : result ≡ Err Read → m.unread
  pub write : result ≡ Err Write → m.unwritten ⊎ ((channel ≡ Synchronous) × m.refused)

-- The connection is served; or it is not, for a cause, and nothing was read, asked or written.
abbrev pub RunsSession : {D : Type 0} → (D → Entry → D → Type 0) → Mishaps → (turned_away : Unserved → Type 0)
    → (turns : ℕ) → ConnectionSeen D → ConnectionSeen D → Option Unserved → Result (Unit {0}) ServeFault → Type 0
RunsSession passes m turned_away turns before after None result = ServesFromHeader passes m turns before after result
RunsSession passes m turned_away turns before after (Some why) result =
    IsUnserved turned_away why × (after ≡ before) × (result ≡ Ok tt)
