use Rattle.sw_cage.proofs.MaskLemmas.{mask_read}
use Rattle.sw_cage.proofs.SharedLemmas.{shared_read}
use Rattle.sw_cage.proofs.slots.slot.CageSlot.with.Goals as goal

pub invariant_of-result : goal.invariant_of-result
invariant_of-result g c = (
  mask_read c.args.card.1 c.closed_mask-closed.result c.closed_mask-closed.ensures,
  shared_read c.args.card.1 c.shared_group-shared.result c.shared_group-shared.ensures.shared,
)
