-- What a server of one channel owes: by its desk, its reader and its two writers, before it and after it.
use Rattle.std.specs.Prelude.{◌≡◌, ℕ, ◌⊎◌, List, Result, Err}
use Rattle.std.specs.Io.KnownBytes.{prepend_known}
use Rattle.sw_session.specs.declared.fault.ServeFault.{ServeFault}
use Rattle.sw_session.specs.declared.fault.ServeFault.TheVariants as Fault
use Rattle.sw_session.specs.declared.source.ByteSource as ByteSource
use Rattle.sw_session.specs.declared.writing.Sink as Sink
use Rattle.sw_talk.specs.Trace.{Entry}
use Rattle.sw_session.specs.ServeRead.{IsLedTo}
use Rattle.sw_session.specs.ServeEngine.{Station, ServesChannel}
use Rattle.sw_session.specs.Beginning.{BeginningSeen}

-- what the traits of a server's reader and its two writers say of them
pub record Wiring (R W S : Type 0) : Type 1 where
  pub reads : ByteSource.Ghosts R
  pub writes : Sink.Ghosts W
  pub writes_aside : Sink.Ghosts S

abbrev pub wiring : {R W S : Type 0} → ByteSource.Ghosts R → Sink.Ghosts W → Sink.Ghosts S → Wiring R W S
wiring reads writes writes_aside = record { reads = reads; writes = writes; writes_aside = writes_aside }

-- a server's desk, its reader and its two writers
pub record Connected (D R W S : Type 0) : Type 0 where
  pub desk : D
  pub reader : R
  pub writer : W
  pub side : S

abbrev pub connected : {D R W S : Type 0} → D → R → W → S → Connected D R W S
connected desk reader writer side = record { desk = desk; reader = reader; writer = writer; side = side }

-- the bytes that the reader has left, how many reads a time limit ended, and the bytes that the writers hold
abbrev pub station_of : {D R W S : Type 0} → Wiring R W S → Connected D R W S → Station D
station_of w c = record {
  desk = c.desk;
  input = w.reads.remaining c.reader;
  pauses = w.reads.pauses c.reader;
  main = w.writes.contents c.writer;
  side = w.writes_aside.contents c.side;
}

-- these bytes come before what the reader has left
abbrev pub behind : {D : Type 0} → List ℕ → Station D → Station D
behind bytes t = record t { input = prepend_known bytes t.input }

-- The channel is served, from the bytes on that were heard on it before, with what the reader and the writers say of
-- their bytes and of the reads that a time limit ended. A fault of reading comes where a read failed, and one of
-- writing where a write failed.
pub record ServesConnection {D R W S : Type 0} (start : BeginningSeen) (turns : ℕ) (passes : D → Entry → D → Type 0)
    (w : Wiring R W S) (before after : Connected D R W S) (result : Result (Unit {0}) ServeFault) : Type 0 where
  pub serves : ServesChannel passes start.channel turns (behind start.bytes (station_of w before)) (station_of w after)
      result
  pub read : result ≡ Err Fault.Read → IsLedTo w.reads.failed after.reader
  pub write : result ≡ Err Fault.Write → IsLedTo w.writes.failed after.writer ⊎ IsLedTo w.writes_aside.failed after.side
