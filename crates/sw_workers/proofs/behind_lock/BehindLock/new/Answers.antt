use Rattle.std.proofs.Common.{sym, subst}
use Rattle.sw_workers.specs.Halves.{Rows, AreJoined}
use Rattle.sw_workers.proofs.HalvesLemmas.{none_waits}
use Rattle.sw_workers.proofs.behind_lock.BehindLock.new.Goals as goal

pub invariant_of-result : goal.invariant_of-result
invariant_of-result g c = subst (λ (r : Rows). AreJoined c.args.held.panel.sessions r) (sym c.requires) (none_waits c.args.held.panel.sessions)
