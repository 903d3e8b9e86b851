use Rattle.std.proofs.Common.{length, sym, ap}
use Rattle.std.proofs.lemmas.Result.{IfOk-weaker, IfErr-weaker}
use Rattle.sw_trigger.proofs.Awaiting.{listed_from_test}
use Rattle.sw_verify.proofs.PlanLemmas.{verified_ready, ready_planned}
use Rattle.sw_verify.proofs.plan.compiled_code.Goals as goal

pub returns-clause-ready : goal.returns-clause-ready
returns-clause-ready c =
    let p = c.args.snapshot.now in
    let listed = listed_from_test c.is_empty.result _ (length p.settings.scan.list) c.is_empty.ensures c.if-is_empty.false (sym (ap length c.list.ensures.list)) in
    IfOk-weaker c.verify.result _ _
    (verified_ready p c.in-Ok.code c.as_slice-closed.result.now c.points.result c.in-Ok.ensures.code c.points.ensures.range listed c.as_slice-closed.ensures
    c.points.ensures.points) c.verify.ensures.sound

pub returns-clause-refused : goal.returns-clause-refused
returns-clause-refused c =
    let p = c.args.snapshot.now in
    let listed = listed_from_test c.is_empty.result _ (length p.settings.scan.list) c.is_empty.ensures c.if-is_empty.false (sym (ap length c.list.ensures.list)) in
    IfErr-weaker c.verify.result _ _ (λ r only ready. only
    (ready_planned p c.in-Ok.code c.as_slice-closed.result.now c.points.result c.in-Ok.ensures.code c.points.ensures.range listed c.as_slice-closed.ensures
    c.points.ensures.points ready)) c.verify.ensures.complete
