use Rattle.std.proofs.Common.{refl, None, arith}
use Rattle.sw_talk.proofs.KeepingLemmas.{waited-more, rests-over, rests-in-vain, passes-over, passes-wait, carried}
use Rattle.sw_talk.proofs.core_desk.CoreDesk.wait_all.Goals as goal

pub loop-turn-init : goal.loop-turn-init
loop-turn-init g c = refl

pub returns-in_default-clause-rests : goal.returns-in_default-clause-rests
returns-in_default-clause-rests g c =
    rests-over _ _ _ c.loop-turn._turn c.loop-turn.invariant (passes-over _ _ None c.in_default.ensures.none c.in_default.ensures.same)

pub loop-turn-preserved : goal.loop-turn-preserved
loop-turn-preserved g c =
    let told = c.carry_out.ensures.step in
    waited-more _ _ _ c.loop-turn._turn _ c.loop-turn.invariant (
    passes-wait _ _ _ _ _ _ None c.in-Some.ensures.some
    (carried _ _ _ _ _ told.1 told.2 c.carry_out.ensures.work c.carry_out.ensures.room c.carry_out.ensures.available)
    c.keep.ensures)

pub returns-clause-rests : goal.returns-clause-rests
returns-clause-rests g c = rests-in-vain _ _ c.loop-turn._turn (omega arith) c.loop-turn.invariant
