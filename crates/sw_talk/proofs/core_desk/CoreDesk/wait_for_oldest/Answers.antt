use Rattle.sw_talk.proofs.KeepingLemmas.{passes-wait, leaves-all, carried}
use Rattle.sw_talk.proofs.core_desk.CoreDesk.wait_for_oldest.Goals as goal

pub returns-in-Some : goal.returns-in-Some
returns-in-Some g c =
    let told = c.carry_out.ensures.step in record {
      passes = passes-wait _ _ _ _ _ _ c.args.limit_ms c.in-Some.ensures.some
          (carried _ _ _ _ _ told.1 told.2 c.carry_out.ensures.work c.carry_out.ensures.room c.carry_out.ensures.available)
          c.keep.ensures;
      left = leaves-all c.args.limit_ms;
    }
