use Rattle.std.proofs.Common.{◌≡◌, ◌++◌, drop, take}
use Rattle.std.specs.List.{All}
use Rattle.sw_channel.specs.Printing.{printed_after, printed_channel, InRange}
use Rattle.sw_channel.proofs.print.put_others.Given as goal

abbrev pub invariant-loop-chan : goal.invariant-loop-chan
invariant-loop-chan l = record {
  printed : l.out.items ++ printed_after l.fn.mark printed_channel (drop l.chan-index l.chans)
      ≡ l.fn.out.items ++ printed_after l.fn.mark printed_channel l.chans;
  in_range : All InRange (take l.chan-index l.chans);
}
