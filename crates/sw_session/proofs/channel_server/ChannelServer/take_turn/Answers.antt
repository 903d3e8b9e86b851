use Rattle.std.proofs.Common.{rules, false, Ok, sym, ◌∙◌}
use Rattle.sw_session.specs.declared.turns.Received.TheVariants.{End, Bytes, Paused}
use Rattle.sw_session.specs.Acts.{Notices}
use Rattle.sw_session.proofs.ServeWaysLemmas.{listens-is, counts-is, each-one}
use Rattle.sw_session.proofs.ServeTurnsLemmas.{judged-ok, concluded-read, concluded-write, each-unread, all-unread, listens-unwritten, turn-err, turn-end}
use Rattle.sw_session.proofs.ServeTurnsLemmas.{turn-paused, turn-bytes}
use Rattle.sw_session.proofs.channel_server.ChannelServer.take_turn.Goals as goal

pub returns-in-Err-clause-turn : goal.returns-in-Err-clause-turn
returns-in-Err-clause-turn g c = turn-err _ _ _ _ _ _ _ _ c.in-Err.fault c.requires c.in-Err.ensures.listens c.in-Err.ensures.pauses

pub returns-in-Ok-End-clause-turn : goal.returns-in-Ok-End-clause-turn
returns-in-Ok-End-clause-turn g c =
    turn-end _ _ _ _ _ _ _ _ c.requires (listens-is _ _ _ _ c.listen.result (Ok End) (search rules) c.listen.ensures.listens)
    (counts-is _ _ c.listen.result (Ok End) (search rules) c.listen.ensures.pauses)

pub returns-in-Ok-Paused-clause-turn : goal.returns-in-Ok-Paused-clause-turn
returns-in-Ok-Paused-clause-turn g c =
    rw c.conclude.ensures (rw c.notice.ensures.decoder (turn-paused _ c.args.self.now.decoder.now.pending c.listen.new.decoder.pending _ _ c.notice.result
    (counts-is _ _ c.listen.result (Ok Paused) (search rules) c.listen.ensures.pauses) c.requires
    (listens-is _ _ _ _ c.listen.result (Ok Paused) (search rules) c.listen.ensures.listens) (each-one _ Notices _ _ c.notice.result c.notice.ensures.processed)
    (judged-ok false c.notice.result c.notice.ensures.judged)))

pub returns-in-Ok-Bytes-clause-turn : goal.returns-in-Ok-Bytes-clause-turn
returns-in-Ok-Bytes-clause-turn g c =
    rw c.conclude-in-Ok-Bytes.ensures (turn-bytes _ c.args.self.now.decoder.now.pending c.listen.new.decoder.pending _ _ _ c.process_all.result
    (listens-is _ _ _ _ c.listen.result (Ok Bytes) (search rules) c.listen.ensures.listens)
    (counts-is _ _ c.listen.result (Ok Bytes) (search rules) c.listen.ensures.pauses) c.process_all.ensures.processed)

pub returns-in-Err-clause-write : goal.returns-in-Err-clause-write
returns-in-Err-clause-write g c = λ e. absurd (listens-unwritten _ _ _ _ c.in-Err.fault c.in-Err.ensures.listens (cc (e)))

pub returns-in-Ok-Paused-clause-read : goal.returns-in-Ok-Paused-clause-read
returns-in-Ok-Paused-clause-read g c =
    λ e. absurd (each-unread _ _ _ _ c.notice.result (each-one _ Notices _ _ c.notice.result c.notice.ensures.processed)
    (concluded-read _ (sym c.conclude.ensures ∙ e)))

pub returns-in-Ok-Paused-clause-write : goal.returns-in-Ok-Paused-clause-write
returns-in-Ok-Paused-clause-write g c = λ e. c.notice.ensures.write (concluded-write _ (sym c.conclude.ensures ∙ e))

pub returns-in-Ok-Bytes-clause-read : goal.returns-in-Ok-Bytes-clause-read
returns-in-Ok-Bytes-clause-read g c =
    λ e. absurd (all-unread _ _ _ _ _ c.process_all.result c.process_all.ensures.processed
    (concluded-read _ (sym c.conclude-in-Ok-Bytes.ensures ∙ e)))

pub returns-in-Ok-Bytes-clause-write : goal.returns-in-Ok-Bytes-clause-write
returns-in-Ok-Bytes-clause-write g c = λ e. c.process_all.ensures.write (concluded-write _ (sym c.conclude-in-Ok-Bytes.ensures ∙ e))
