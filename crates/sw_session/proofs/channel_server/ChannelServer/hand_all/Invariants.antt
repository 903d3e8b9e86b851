use Rattle.std.proofs.Common.{◌≡◌, length}
use Rattle.sw_session.specs.Server.{voice_of, stands, StaysServer}
use Rattle.sw_session.proofs.ServeHandsLemmas.{Handing}
use Rattle.sw_session.proofs.channel_server.ChannelServer.hand_all.Given as goal

abbrev pub invariant-loop-sent : goal.invariant-loop-sent
invariant-loop-sent g l = record {
  handing : Handing (voice_of g.D.Desk.passes l.fn.self) l.fn.said.out l.left.out (stands g.W.Sink g.S.Sink l.fn.self) (stands g.W.Sink g.S.Sink l.self);
  decoder : l.self.decoder ≡ l.fn.self.decoder;
  stays : StaysServer l.fn.self l.self;
}

abbrev pub decreases-loop-sent : goal.decreases-loop-sent
decreases-loop-sent g l = length l.left.out
