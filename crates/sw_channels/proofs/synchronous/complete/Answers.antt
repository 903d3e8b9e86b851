use Rattle.std.proofs.Common.{◌∙◌, sym, ap}
use Rattle.sw_channels.specs.EngineSync.{responds}
use Rattle.sw_channels.proofs.SyncRowsLemmas.{completes-done, completes-not}
use Rattle.sw_channels.proofs.synchronous.complete.Goals as goal

pub returns-then-is_done : goal.returns-then-is_done
returns-then-is_done g c =
    completes-done g.D.Desk.passes _ _ _ c.args.sid c.ask-answer.result _ (sym c.is_done.ensures ∙ c.if-is_done.true) c.ask-answer.ensures.passes c.note.ensures
    (ap responds c.plain.ensures)

pub returns : goal.returns
returns g c = completes-not g.D.Desk.passes _ _ c.args.sid c.ask-answer.result (sym c.is_done.ensures ∙ c.if-is_done.false) c.ask-answer.ensures.passes
