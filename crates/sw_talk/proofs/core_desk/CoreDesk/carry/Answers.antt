use Rattle.sw_talk.proofs.KeepingLemmas.{carried}
use Rattle.sw_talk.proofs.core_desk.CoreDesk.carry.Goals as goal

pub returns : goal.returns
returns g c =
    let told = c.carry_out.ensures.step in
    carried _ _ _ _ _ told.1 told.2 c.carry_out.ensures.work c.carry_out.ensures.room c.carry_out.ensures.available
