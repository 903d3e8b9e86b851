use Rattle.std.proofs.Common.{Some}
use Rattle.sw_core.specs.Seen.{work_seen}
use Rattle.sw_talk.proofs.KeepingLemmas.{KeepsBy, weight}
use Rattle.sw_talk.proofs.core_desk.CoreDesk.keep_or_carry.Given as goal

abbrev pub invariant-pieces : goal.invariant-pieces
invariant-pieces g l = KeepsBy l.fn.self (work_seen (Some l.fn.piece)) l.self (work_seen l.work)

abbrev pub decreases-pieces : goal.decreases-pieces
decreases-pieces g l = weight (work_seen l.work) l.self.panel
