use Rattle.std.proofs.Common.{◌≡◌, ◌++◌, drop, take}
use Rattle.std.specs.List.{All}
use Rattle.sw_channel.specs.Printing.{printed_after, printed_position, IsPrintable}
use Rattle.sw_channel.proofs.print.put_other_positions.Given as goal

abbrev pub invariant-loop-position : goal.invariant-loop-position
invariant-loop-position l = record {
  printed : l.out.items ++ printed_after 44 printed_position (drop l.position-index l.positions)
      ≡ l.fn.out.items ++ printed_after 44 printed_position l.positions;
  in_range : All IsPrintable (take l.position-index l.positions);
}
