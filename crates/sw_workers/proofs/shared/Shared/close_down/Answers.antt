use Rattle.sw_workers.proofs.HalvesLemmas.{joined_on}
use Rattle.sw_workers.proofs.shared.Shared.close_down.Goals as goal

pub invariant_of-behind-guard : goal.invariant_of-behind-guard
invariant_of-behind-guard g c =
    joined_on c.behind-guard.inside.held.panel c.close_held.new.held.panel c.behind-guard.inside.halves c.close_held.ensures.joined c.behind-guard.invariant
