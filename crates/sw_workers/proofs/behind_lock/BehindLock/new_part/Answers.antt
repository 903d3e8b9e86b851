use Rattle.std.proofs.Common.{sym, subst}
use Rattle.sw_core.specs.Panel.{Panel}
use Rattle.sw_workers.specs.Halves.{AreJoined}
use Rattle.sw_workers.proofs.behind_lock.BehindLock.new_part.Goals as goal

pub invariant_of-self : goal.invariant_of-self
invariant_of-self g c = subst (λ (p : Panel). AreJoined p.sessions c.self.inside.halves) (sym c.new_part.ensures.panel.0) c.self.invariant
