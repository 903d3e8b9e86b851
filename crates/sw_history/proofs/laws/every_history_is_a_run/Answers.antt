use Rattle.sw_history.proofs.HistoryRunsLemmas.{every_history}
use Rattle.sw_history.proofs.laws.every_history_is_a_run.Goals as goal

pub returns : goal.returns
returns c = every_history c.runs_go_on.ensures
