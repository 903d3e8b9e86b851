use Rattle.std.proofs.Common.{sym, inl, refl, ◌∙◌}
use Rattle.sw_channels.proofs.SyncTalksLemmas.{takes-program, takes-reply}
use Rattle.sw_channels.proofs.SyncShortLemmas.{short-else, takes-short}
use Rattle.sw_channels.proofs.program.SyncSession.take.Goals as goal

pub returns-in_err-room-clause-err : goal.returns-in_err-room-clause-err
returns-in_err-room-clause-err g c = short-else g.D.Desk.passes c.args.desk.now _ c.from_residual.result (inl refl)

pub returns-then-is_program-clause-err : goal.returns-then-is_program-clause-err
returns-then-is_program-clause-err g c =
    takes-short g.D.Desk.passes _ _ c.args.self.now c.args.message c.sync_request-request.result c.program.result c.sync_request-request.ensures
    c.program.ensures.err

pub returns-then-is_program-clause-ok : goal.returns-then-is_program-clause-ok
returns-then-is_program-clause-ok g c =
    takes-program g.D.Desk.passes _ _ c.args.self.now _ c.args.message c.sync_request-request.result c.program.result c.sync_request-request.ensures
    (sym c.is_program.ensures ∙ c.if-is_program.true) c.program.ensures.ok

pub returns-clause-ok : goal.returns-clause-ok
returns-clause-ok g c =
    takes-reply g.D.Desk.passes _ _ c.args.self.now _ c.args.message c.sync_request-request.result c.step_of.result _ c.sync_request-request.ensures
    (sym c.is_program.ensures ∙ c.if-is_program.false) c.reply-reply.ensures.replies c.step_of.ensures
