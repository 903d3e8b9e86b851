use Rattle.sw_talk.proofs.OrderLemmas.{kept-where-room}
use Rattle.sw_talk.proofs.laws.work_is_kept_where_there_is_room.Goals as goal

pub returns : goal.returns
returns c = kept-where-room
