use Rattle.std.proofs.Common.{◌≡◌, ◌++◌, drop, take}
use Rattle.std.specs.List.{All}
use Rattle.sw_code.specs.Listing.{others_text}
use Rattle.sw_code.specs.Range.{IsInChannelRange}
use Rattle.sw_code.proofs.print.put_others.Given as goal

abbrev pub invariant-loop-chan : goal.invariant-loop-chan
invariant-loop-chan l = record {
  printed : l.out.items ++ others_text (drop l.chan-index l.chans) ≡ l.fn.out.items ++ others_text l.chans;
  range : All IsInChannelRange (take l.chan-index l.chans);
}
