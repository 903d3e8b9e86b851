use Rattle.std.proofs.Common.{[], refl}
use Rattle.sw_talk.proofs.core_desk.CoreDesk.keep.Goals as goal

pub returns-in-None : goal.returns-in-None
returns-in-None g c = record { carried = []; keeps = rw c.in-None.is refl }
