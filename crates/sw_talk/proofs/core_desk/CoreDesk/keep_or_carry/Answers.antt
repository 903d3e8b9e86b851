use Rattle.sw_talk.proofs.KeepingLemmas.{keeps-start, keeps-none, keeps-last, keeps-on, weight-falls}
use Rattle.sw_talk.proofs.core_desk.CoreDesk.keep_or_carry.Goals as goal

pub pieces-init : goal.pieces-init
pieces-init g c = keeps-start _ _

pub returns-in_default : goal.returns-in_default
returns-in_default g c =
    let k = keeps-none _ _ c.pieces.self c.pieces.work c.pieces.invariant c.in_default.is in
    record { carried = k.0; keeps = k.1 }

pub returns-in-None : goal.returns-in-None
returns-in-None g c =
    let k = keeps-last _ _ c.pieces.self _ c.pieces.work c.in-Some.piece c.pieces.invariant c.in-Some.is c.in-None.ensures.none
    c.in-None.ensures.roomy in
    record { carried = k.0; keeps = k.1 }

pub pieces-smaller : goal.pieces-smaller
pieces-smaller g c =
    weight-falls c.pieces.self _ _ c.pieces.work c.in-Some.piece _ _ c.in-Some.is c.in-Some-put.ensures.same c.carry-work.ensures

pub pieces-preserved : goal.pieces-preserved
pieces-preserved g c =
    keeps-on _ _ c.pieces.self _ _ c.pieces.work c.in-Some.piece _ _ c.pieces.invariant c.in-Some.is c.in-Some-put.ensures.some c.in-Some-put.ensures.same
    c.in-Some-put.ensures.full c.in-Some-put.ensures.roomy c.carry-work.ensures
