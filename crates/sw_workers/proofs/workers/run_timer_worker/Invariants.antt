use Rattle.std.proofs.Common.{None}
use Rattle.sw_workers.specs.Pauses.{IsOfArrived}
use Rattle.sw_workers.specs.Work.{Works, IsOverPause}
use Rattle.sw_workers.proofs.workers.run_timer_worker.Given as goal

abbrev pub invariant-loop : goal.invariant-loop
invariant-loop g l = Works g.H.Recording.first (IsOverPause g.H.Receiving.arrived g.H.Receiving.reached) None l.fn.desk.part l.own.part
    × IsOfArrived g.H.Receiving.arrived l.standing
