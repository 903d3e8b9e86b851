use Rattle.std.proofs.Common.{◌≡◌, drop}
use Rattle.sw_drivers.specs.Lines.{all_lines}
use Rattle.sw_drivers.specs.Wires.{grown}
use Rattle.sw_drivers.proofs.setup.set_up.Given as goal

abbrev pub invariant-loop-line : goal.invariant-loop-line
invariant-loop-line g l = grown (g.W.Wire.sent l.wire) (all_lines (drop l.line-index l.setup)) ≡ grown (g.W.Wire.sent l.fn.wire) (all_lines l.setup)
