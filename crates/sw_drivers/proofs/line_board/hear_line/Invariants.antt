use Rattle.std.proofs.Common.{◌≡◌, ◌≤◌, length, take}
use Rattle.sw_drivers.specs.Wires.{grown}
use Rattle.sw_drivers.proofs.line_board.hear_line.Given as goal

abbrev pub invariant-loop : goal.invariant-loop
invariant-loop g l =
    record {
      within : l.length ≤ 256;
      size : length l.answer ≡ 256;
      asked : g.W.Wire.asked l.wire ≡ g.W.Wire.asked l.fn.wire;
      sent : g.W.Wire.sent l.wire ≡ g.W.Wire.sent l.fn.wire;
      heard : g.W.Wire.answered l.wire ≡ grown (g.W.Wire.answered l.fn.wire) (take l.length l.answer);
    }
