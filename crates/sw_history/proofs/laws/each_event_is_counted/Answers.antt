use Rattle.sw_history.proofs.EachCountedLemmas.{each-counted}
use Rattle.sw_history.proofs.laws.each_event_is_counted.Goals as goal

pub returns : goal.returns
returns c = each-counted
