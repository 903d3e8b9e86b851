use Rattle.std.proofs.Common.{refl}
use Rattle.mainframe.specs.Run.{asked_first}
use Rattle.mainframe.proofs.RunsLemmas.{runs_begun}
use Rattle.mainframe.proofs.run.run_with.Goals as goal

pub returns-in-Ok : goal.returns-in-Ok
returns-in-Ok g c =
    runs_begun c.every_run_is_good.ensures (asked_first c.args.program) _ _ _ _ c.in-Ok.ensures.desk refl _ _ _ _ _ c.run_from.ensures
