use Rattle.std.proofs.Common.{◌≡◌, ◌-◌, length}
use Rattle.sw_cage.specs.Accounts.{accounts_of}
use Rattle.sw_cage.specs.Cards.{meters_of}
use Rattle.sw_cage.proofs.MovesLemmas.{MovesOn}
use Rattle.sw_cage.proofs.scan.machine.make_moves.Given as goal

abbrev pub invariant-loop-next : goal.invariant-loop-next
invariant-loop-next g l = record {
  goes : MovesOn (accounts_of l.fn.slots) l.fn.scan (accounts_of l.slots) l.scan;
  meters : meters_of l.slots ≡ meters_of l.fn.slots;
}

abbrev pub decreases-loop-next : goal.decreases-loop-next
decreases-loop-next g l = length l.scan.course.items - l.scan.index
