use Rattle.std.proofs.Common.{length}
use Rattle.sw_session.specs.Server.{voice_of, stands, StaysServer}
use Rattle.sw_session.proofs.ServeWaysLemmas.{Hearing}
use Rattle.sw_session.proofs.channel_server.ChannelServer.process_all.Given as goal

abbrev pub invariant-loop-heard : goal.invariant-loop-heard
invariant-loop-heard g l = record {
  hearing : Hearing (voice_of g.D.Desk.passes l.fn.self) l.fn.self.decoder.now.pending l.self.decoder.now.pending
      (stands g.W.Sink g.S.Sink l.fn.self) (stands g.W.Sink g.S.Sink l.self);
  stays : StaysServer l.fn.self l.self;
}

abbrev pub decreases-loop-heard : goal.decreases-loop-heard
decreases-loop-heard g l = length l.self.decoder.now.pending.bytes
