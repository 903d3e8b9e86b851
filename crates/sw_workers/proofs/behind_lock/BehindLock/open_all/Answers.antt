use Rattle.sw_workers.proofs.HalvesLemmas.{joined_on}
use Rattle.sw_workers.proofs.behind_lock.BehindLock.open_all.Goals as goal

pub invariant_of-self : goal.invariant_of-self
invariant_of-self g c =
    joined_on c.self.inside.held.panel c.open_relays.new.held.panel c.self.inside.halves c.open_relays.ensures.joined c.self.invariant
