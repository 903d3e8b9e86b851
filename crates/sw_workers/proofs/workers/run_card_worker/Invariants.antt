use Rattle.std.proofs.Common.{None}
use Rattle.sw_workers.specs.Work.{Works, IsReceivedJob}
use Rattle.sw_workers.proofs.workers.run_card_worker.Given as goal

abbrev pub invariant-loop : goal.invariant-loop
invariant-loop g l = Works g.H.Recording.first (IsReceivedJob g.H.Receiving.received) None l.fn.desk.part l.own.part
