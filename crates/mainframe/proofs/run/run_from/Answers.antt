use Rattle.mainframe.proofs.RunsLemmas.{runs-unbegun, runs-from}
use Rattle.mainframe.proofs.run.run_from.Goals as goal

-- there was no memory for the program
pub returns-in_err-begin : goal.returns-in_err-begin
returns-in_err-begin g c =
    runs-unbegun _ _ _ c.from_residual.result c.in_err-begin.field-0.0 _ _ c.from_residual.ensures.1 c.in_err-begin.ensures.memory

pub returns : goal.returns
returns g c = runs-from _ _ _ _ _ _ _ _ _ c.in_ok-begin.ensures.asked c.run_on.ensures.ok c.run_on.ensures.all c.run_on.ensures.err
