use Rattle.sw_cage.proofs.CardLemmas.{new_cards}
use Rattle.sw_cage.proofs.OneSlotLemmas.{new_rack}
use Rattle.sw_cage.proofs.ClaimedLemmas.{claimed_empty}
use Rattle.sw_cage.proofs.slots.Slots.new.Goals as goal

pub invariant_of-result : goal.invariant_of-result
invariant_of-result g c = claimed_empty _ c.new.result
    (new_rack c.loop.slots.items c.loop.counter c.loop.invariant c.loop-test.false c.loop.auto.counter-end) c.new.ensures

pub returns : goal.returns
returns g c = new_cards c.loop.slots.items c.loop.counter c.loop.invariant c.loop-test.false c.loop.auto.counter-end
