use Rattle.std.proofs.Common.{◌≡◌, drop}
use Rattle.sw_drivers.specs.Lines.{all_sent}
use Rattle.sw_drivers.specs.Wires.{grown}
use Rattle.sw_drivers.proofs.line_board.look.Given as goal

abbrev pub invariant-loop-at : goal.invariant-loop-at
invariant-loop-at g l = grown (g.W.Wire.sent l.wire) (all_sent (drop l.at l.is_on)) ≡ grown (g.W.Wire.sent l.fn.wire) (all_sent l.is_on)
