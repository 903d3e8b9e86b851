use Rattle.std.proofs.Common.{◌∙◌, sym, ap, if◌then◌else◌}
use Rattle.sw_channels.specs.EngineStep.{over, goes}
use Rattle.sw_channels.specs.EngineSync.{interruption}
use Rattle.sw_channels.proofs.SyncRowsLemmas.{interrupts-told}
use Rattle.sw_channels.proofs.synchronous.interrupt.Goals as goal

pub returns-then-is_gone : goal.returns-then-is_gone
returns-then-is_gone g c = λ id.
    interrupts-told g.D.Desk.passes _ _ _ c.args.sid id c.ask-answer.result _ c.note.ensures c.ask-answer.ensures.passes
    (sym (ap (λ b. if b then over else goes (interruption id)) (sym c.is_gone.ensures ∙ c.if-is_gone.true)))

pub returns-else-is_gone : goal.returns-else-is_gone
returns-else-is_gone g c = λ id.
    interrupts-told g.D.Desk.passes _ _ _ c.args.sid id c.ask-answer.result _ c.note.ensures c.ask-answer.ensures.passes
    (sym (ap (λ b. if b then over else goes (interruption id)) (sym c.is_gone.ensures ∙ c.if-is_gone.false)))
