use Rattle.std.proofs.Common.{ℕ, ◌≤◌}
use Rattle.std.specs.Io.KnownBytes.{prepend_known}
use Rattle.sw_hislip.specs.Pending.{nothing_fed}
use Rattle.sw_session.specs.Serve.{course}
use Rattle.sw_session.specs.Server.{voice_of, stands, stands_by, StaysServer}
use Rattle.sw_session.proofs.ServeTurnsLemmas.{Going}
use Rattle.sw_session.proofs.channel_server.ChannelServer.run.Given as goal

-- what was heard is carried out, and then as many turns were taken as the loop has made
abbrev pub invariant-loop-turn : goal.invariant-loop-turn
invariant-loop-turn g l =
    (n : ℕ) × (l._turn ≤ n)
    × Going (voice_of g.D.Desk.passes l.fn.self) nothing_fed l.self.decoder.now.pending
    (course (stands g.W.Sink g.S.Sink l.fn.self) (prepend_known l.fn.self.decoder.now.pending.bytes (g.R.ByteSource.remaining l.fn.reader))
    (g.R.ByteSource.pauses l.fn.reader))
    (stands_by g.R.ByteSource g.W.Sink g.S.Sink l.self l.reader) n
    × StaysServer l.fn.self l.self
