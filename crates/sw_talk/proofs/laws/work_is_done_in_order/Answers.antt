use Rattle.sw_talk.proofs.OrderLemmas.{done-in-order}
use Rattle.sw_talk.proofs.laws.work_is_done_in_order.Goals as goal

pub returns : goal.returns
returns c = done-in-order
