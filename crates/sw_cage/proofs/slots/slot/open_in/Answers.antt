use Rattle.std.proofs.Common.{false, subst}
use Rattle.sw_cage.specs.Accounts.{option_account}
use Rattle.sw_cage.specs.Masks.{IsSlotMask}
use Rattle.sw_cage.specs.Shared.{IsShared}
use Rattle.sw_cage.proofs.ClaimedLemmas.{ok_is, err_is}
use Rattle.sw_cage.proofs.MaskLemmas.{mask_read, mask_opened}
use Rattle.sw_cage.proofs.SharedLemmas.{shared_set, shared_fault}
use Rattle.sw_cage.proofs.slots.slot.open_in.Goals as goal

pub invariant_of-slot : goal.invariant_of-slot
invariant_of-slot g c = (
  mask_opened c.in-Some.card.1 c.open.new.self.1 c.slot.inside.closed c.remove.new.self c.args.ch
      (ok_is c.open.result _ c.in-Ok.is c.open.ensures.ok) c.requires.range.0
      (subst (λ o. IsSlotMask c.slot.inside.closed (option_account o)) c.in-Some.is c.slot.invariant.0)
      c.remove.ensures.here c.remove.ensures.others,
  shared_set c.slot.inside.shared _ c.open.new.self.1 _ false (ok_is c.open.result _ c.in-Ok.is c.open.ensures.ok)
      (subst (λ o. IsShared c.slot.inside.shared (option_account o)) c.in-Some.is c.slot.invariant.1),
)

pub invariant_of-slot-in-Err : goal.invariant_of-slot-in-Err
invariant_of-slot-in-Err g c = (
  mask_read c.open.new.self.1 c.closed_mask-slot-inside.result c.closed_mask-slot-inside.ensures,
  shared_fault c.slot.inside.shared _ c.open.new.self.1 _ (err_is c.open.result _ c.in-Err.is c.open.ensures.err)
      (subst (λ o. IsShared c.slot.inside.shared (option_account o)) c.in-Some.is c.slot.invariant.1),
)
