use Rattle.std.proofs.Common.{refl, sym, ◌∙◌}
use Rattle.std.specs.Io.KnownBytes.{prepend_known}
use Rattle.sw_hislip.specs.Pending.{nothing_fed}
use Rattle.sw_session.specs.Serve.{course}
use Rattle.sw_session.specs.Server.{stands}
use Rattle.sw_session.proofs.HeardLemmas.{heard_is, consumes_heard}
use Rattle.sw_session.proofs.ServeTurnsLemmas.{turn-bytes, concluded-read, concluded-write, all-unread}
use Rattle.sw_session.proofs.channel_server.ChannelServer.take_heard.Goals as goal

pub returns-clause-turn : goal.returns-clause-turn
returns-clause-turn g c = λ input pauses. rw c.conclude.ensures (
    let p = c.args.self.now.decoder.now.pending in
    turn-bytes _ nothing_fed p _
    (course (stands g.W.Sink g.S.Sink c.args.self.now) (prepend_known p.bytes input) pauses)
    (course (stands g.W.Sink g.S.Sink c.process_all.new.self) input pauses) c.process_all.result
    (p.bytes, c.requires.some, consumes_heard p.bytes input, heard_is p c.requires.fresh) refl c.process_all.ensures.processed)

pub returns-clause-read : goal.returns-clause-read
returns-clause-read g c =
    λ e. all-unread _ _ _ _ _ c.process_all.result c.process_all.ensures.processed (concluded-read _ (sym c.conclude.ensures ∙ e))

pub returns-clause-write : goal.returns-clause-write
returns-clause-write g c = λ e. c.process_all.ensures.write (concluded-write _ (sym c.conclude.ensures ∙ e))
