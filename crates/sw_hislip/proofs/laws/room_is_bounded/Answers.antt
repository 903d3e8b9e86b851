use Rattle.sw_hislip.proofs.Cuts.{bounded_room}
use Rattle.sw_hislip.proofs.laws.room_is_bounded.Goals as goal

pub returns : goal.returns
returns c = bounded_room
