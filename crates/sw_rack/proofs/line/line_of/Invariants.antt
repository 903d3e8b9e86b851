use Rattle.std.proofs.Common.{◌≡◌, ◌<◌, ◌≤◌, ◌-◌, true, false, length, drop}
use Rattle.sw_rack.specs.Lines.{first_shown}
use Rattle.sw_rack.proofs.line.line_of.Given as goal

abbrev pub invariant-loop-low : goal.invariant-loop-low
invariant-loop-low l = record {
  within : l.high ≤ length l.ends.items;
  ordered : l.low ≤ l.high;
  shown : l.high < length l.ends.items → first_shown l.fault l.text (drop l.high l.ends.items) ≡ true;
  hidden : 0 < l.low → first_shown l.fault l.text (drop (l.low - 1) l.ends.items) ≡ false;
}

abbrev pub decreases-loop-low : goal.decreases-loop-low
decreases-loop-low l = l.high - l.low
