use Rattle.std.proofs.Common.{rules, true, subst}
use Rattle.sw_cage.specs.Accounts.{option_account}
use Rattle.sw_cage.specs.Shared.{IsShared}
use Rattle.sw_cage.proofs.ClaimedLemmas.{ok_is, err_is}
use Rattle.sw_cage.proofs.MaskLemmas.{mask_read}
use Rattle.sw_cage.proofs.SharedLemmas.{shared_set, shared_fault}
use Rattle.sw_cage.proofs.slots.slot.close_in.Goals as goal

pub invariant_of-slot : goal.invariant_of-slot
invariant_of-slot g c = (
  search rules,
  shared_set c.slot.inside.shared _ c.close.new.self.1 _ true (ok_is c.close.result _ c.in-Ok.is c.close.ensures.ok)
      (subst (λ o. IsShared c.slot.inside.shared (option_account o)) c.in-Some.is c.slot.invariant.1),
)

pub invariant_of-slot-in-Err : goal.invariant_of-slot-in-Err
invariant_of-slot-in-Err g c = (
  mask_read c.close.new.self.1 c.closed_mask-slot-inside.result c.closed_mask-slot-inside.ensures,
  shared_fault c.slot.inside.shared _ c.close.new.self.1 _ (err_is c.close.result _ c.in-Err.is c.close.ensures.err)
      (subst (λ o. IsShared c.slot.inside.shared (option_account o)) c.in-Some.is c.slot.invariant.1),
)
