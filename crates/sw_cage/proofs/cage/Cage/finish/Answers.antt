use Rattle.sw_cage.specs.Outcome.{with_back}
use Rattle.sw_cage.specs.TakenSeen.{taken_seen}
use Rattle.sw_cage.proofs.FailureLemmas.{failed_counts, readings_counts}
use Rattle.sw_cage.proofs.cage.Cage.finish.Goals as goal

pub returns-then-takes_return-clause-failed : goal.returns-then-takes_return-clause-failed
returns-then-takes_return-clause-failed g c taken =
    failed_counts (with_back c.args.self.now.seen c.args.finished.1) c.count.new.self.seen c.args.finished.1.outcome (taken_seen c.count.result)
    c.count.ensures.counts

pub returns-then-takes_return-clause-readings : goal.returns-then-takes_return-clause-readings
returns-then-takes_return-clause-readings g c taken =
    readings_counts (with_back c.args.self.now.seen c.args.finished.1) c.count.new.self.seen c.args.finished.1.outcome (taken_seen c.count.result)
    c.count.ensures.counts
