use Rattle.sw_talk.proofs.DeskRunsLemmas.{desk-runs}
use Rattle.sw_talk.proofs.laws.core_desk_runs.Goals as goal

pub returns : goal.returns
returns c = desk-runs
