use Rattle.std.proofs.Common.{sym, ap, subst, ◌∙◌}
use Rattle.sw_core.specs.Seen.{Pauses}
use Rattle.sw_workers.specs.declared.pauses.Next.TheVariants.{Ends}
use Rattle.sw_workers.specs.Pauses.{EndsStanding, IsOfArrived, after_next}
use Rattle.sw_workers.proofs.WorkedLemmas.{works-none, works-more, ended}
use Rattle.sw_workers.proofs.workers.run_timer_worker.Goals as goal

pub loop-init : goal.loop-init
loop-init g c = (works-none _ _ _, subst (λ s. IsOfArrived g.H.Receiving.arrived s) (sym c.new-standing.ensures) tt)

pub loop-preserved : goal.loop-preserved
loop-preserved g c =
    let h = ended g.H.Receiving.arrived g.H.Receiving.reached c.loop.standing.stands c.in-Ends.ticket c.loop.invariant.1
    (subst (λ s. EndsStanding g.H.Receiving.reached s (Ends c.in-Ends.ticket)) c.pause.ensures c.in-Ends.ensures.ends) in (
      works-more _ _ (Pauses c.in-Ends.ticket h.0) _ _ _ c.loop.invariant.0 h.1 (c.end_pause.ensures h.0),
      subst (λ s. IsOfArrived g.H.Receiving.arrived s) (sym (c.after-standing.ensures ∙ ap (λ n. after_next c.loop.standing n) c.in-Ends.is)) tt,
    )
