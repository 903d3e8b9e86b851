use Rattle.std.proofs.Common.{◌≡◌, ◌+◌, length}
use Rattle.std.specs.List.{sum_by}
use Rattle.sw_workers.proofs.closing.gather.Given as goal

abbrev pub invariant-loop-desk : goal.invariant-loop-desk
invariant-loop-desk g l = (l.all.parts + length l.desks.items ≡ l.fn.spare.parts + length l.fn.desks.items)
    × (l.all.amount + sum_by (λ d. d.part.amount) l.desks.items ≡ l.fn.spare.amount + sum_by (λ d. d.part.amount) l.fn.desks.items)

abbrev pub decreases-loop-desk : goal.decreases-loop-desk
decreases-loop-desk g l = goal.left-loop-desk g l
