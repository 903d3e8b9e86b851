use Rattle.std.proofs.Common.{◌≡◌, take, drop, ◌++◌, map}
use Rattle.sw_cage.specs.Accounts.{option_rest, accounts_of}
use Rattle.sw_cage.specs.Cards.{meters_of}
use Rattle.sw_cage.proofs.slots.slot.rest_all.Given as goal

abbrev pub invariant-loop-slot : goal.invariant-loop-slot
invariant-loop-slot g l = record {
  opened : accounts_of l.slot-items ≡ map option_rest (take l.slot-index (accounts_of l.fn.slots)) ++ drop l.slot-index (accounts_of l.fn.slots);
  meters : meters_of l.slot-items ≡ meters_of l.fn.slots;
}
