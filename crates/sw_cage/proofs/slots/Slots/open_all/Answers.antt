use Rattle.sw_cage.proofs.OneSlotLemmas.{all_rested}
use Rattle.sw_cage.proofs.ClaimedLemmas.{claimed_rested}
use Rattle.sw_cage.proofs.slots.Slots.open_all.Goals as goal

pub invariant_of-self : goal.invariant_of-self
invariant_of-self g c = claimed_rested _ _ c.new-self-inside.result
    (all_rested c.self.inside.slots.items c.deref_mut.result.now c.rest_all.new.slots c.self.inside.slots.len
    c.deref_mut.ensures.value c.rest_all.ensures.open c.deref_mut.ensures.len) c.self.invariant.safe c.new-self-inside.ensures
