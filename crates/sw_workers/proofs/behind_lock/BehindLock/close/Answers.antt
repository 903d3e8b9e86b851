use Rattle.std.proofs.Common.{sym, subst}
use Rattle.sw_history.specs.Held.{Locked}
use Rattle.sw_workers.specs.Halves.{AreJoined}
use Rattle.sw_workers.proofs.behind_lock.BehindLock.close.Goals as goal

pub invariant_of-self : goal.invariant_of-self
invariant_of-self g c = subst (λ (l : Locked _). AreJoined l.panel.sessions c.self.inside.halves) (sym c.close.ensures) c.self.invariant
