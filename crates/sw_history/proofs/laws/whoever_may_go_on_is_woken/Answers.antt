use Rattle.sw_history.proofs.WokenLemmas.{whoever-woken}
use Rattle.sw_history.proofs.laws.whoever_may_go_on_is_woken.Goals as goal

pub returns : goal.returns
returns c = whoever-woken
