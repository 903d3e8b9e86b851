use Rattle.std.proofs.Common.{ap, ◌∙◌}
use Rattle.sw_workers.specs.Waits.{serving_after}
use Rattle.sw_workers.proofs.AskedLemmas.{answers, hands-back}
use Rattle.sw_workers.proofs.desk.SharedDeskDesk.ask_into.Goals as goal

pub returns-clause-passes : goal.returns-clause-passes
returns-clause-passes g c = (
  answers _ c.args.ask _ _ _ _ _ c.act.ensures c.carry.ensures.adds,
  c.serving_after-self.ensures ∙ ap (λ b. serving_after c.args.self.now.serves b c.act.new.answer) c.is_leave-leaves.ensures,
)

pub returns-clause-back : goal.returns-clause-back
returns-clause-back g c = hands-back _ c.args.ask _ _ _ _ c.act.ensures
