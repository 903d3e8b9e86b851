use Rattle.std.proofs.Common.{sym}
use Rattle.sw_cage.specs.TakenSeen.{taken_seen}
use Rattle.sw_cage.proofs.ChannelCallLemmas.{failed_same}
use Rattle.sw_cage.proofs.FailureLemmas.{failed_past, readings_past}
use Rattle.sw_cage.proofs.cage.Cage.take.Goals as goal

pub returns-then-not-takes-clause-failed : goal.returns-then-not-takes-clause-failed
returns-then-not-takes-clause-failed g c = sym (failed_same c.args.self.now.seen.cards)

pub returns-clause-failed : goal.returns-clause-failed
returns-clause-failed g c = sym (failed_past c.args.self.now.seen c.go_past.new.self.seen (taken_seen c.go_past.result) c.go_past.ensures.past)

pub returns-clause-readings : goal.returns-clause-readings
returns-clause-readings g c = readings_past c.args.self.now.seen c.go_past.new.self.seen (taken_seen c.go_past.result) c.go_past.ensures.past
