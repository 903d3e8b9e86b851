-- A server of one channel, as the relations of a server see it.
use Rattle.std.specs.Prelude.{◌≡◌, ◌⊎◌}
use Rattle.sw_session.specs.declared.channel_server.ChannelServer.{ChannelServer}
use Rattle.sw_session.specs.declared.source.ByteSource as ByteSource
use Rattle.sw_session.specs.declared.writing.Sink as Sink
use Rattle.sw_talk.specs.Trace.{Entry}
use Rattle.sw_channels.specs.Engine.{EngineStanding}
use Rattle.sw_session.specs.ServePoint.{Voice, voice, Point, point}
use Rattle.sw_session.specs.ServeRead.{IsLedTo}
use Rattle.sw_session.specs.Serve.{Course, course}
use Rattle.sw_session.specs.ServeEngine.{engine_protocol}

-- by what it speaks
abbrev pub voice_of : {W S D : Type 0} → (D → Entry → D → Type 0) → ChannelServer W S D → Voice EngineStanding D
voice_of passes s = voice engine_protocol passes s.own

-- its engine, its desk, and what its two writers hold
abbrev pub stands : {W S D : Type 0} → Sink.Ghosts W → Sink.Ghosts S → ChannelServer W S D → Point EngineStanding D
stands writes writes_aside s =
    point s.engine.now s.desk.now (writes.contents s.writer.now) (writes_aside.contents s.side.now)

-- the same beside its reader
abbrev pub stands_by : {R W S D : Type 0} → ByteSource.Ghosts R → Sink.Ghosts W → Sink.Ghosts S
    → ChannelServer W S D → R → Course EngineStanding D
stands_by reads writes writes_aside s reader =
    course (stands writes writes_aside s) (reads.remaining reader) (reads.pauses reader)

-- it serves the same channel still, by the same desk and the same two writers
pub record StaysServer {W S D : Type 0} (old new : ChannelServer W S D) : Type 0 where
  pub own : new.own ≡ old.own
  pub desk : new.desk.ghost_name ≡ old.desk.ghost_name
  pub writer : new.writer.ghost_name ≡ old.writer.ghost_name
  pub side : new.side.ghost_name ≡ old.side.ghost_name

-- one of its writers failed
abbrev pub WriteFails : {W S D : Type 0} → Sink.Ghosts W → Sink.Ghosts S → ChannelServer W S D → Type 0
WriteFails writes writes_aside s =
    IsLedTo writes.failed s.writer.now ⊎ IsLedTo writes_aside.failed s.side.now
