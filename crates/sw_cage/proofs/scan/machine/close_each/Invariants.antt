use Rattle.std.proofs.Common.{◌≡◌, drop}
use Rattle.sw_cage.specs.Accounts.{accounts_of}
use Rattle.sw_cage.specs.Cards.{meters_of}
use Rattle.sw_cage.proofs.MoveLemmas.{ClosesOn}
use Rattle.sw_cage.proofs.scan.machine.close_each.Given as goal

abbrev pub invariant-loop-chan : goal.invariant-loop-chan
invariant-loop-chan g l = record {
  goes : ClosesOn (accounts_of l.fn.slots) l.position (drop l.chan-index l.position) (accounts_of l.slots);
  meters : meters_of l.slots ≡ meters_of l.fn.slots;
}
