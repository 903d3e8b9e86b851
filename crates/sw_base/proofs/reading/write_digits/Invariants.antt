use Rattle.std.proofs.Common.{◌+◌, ◌-◌, ◌*◌, ◌≡◌, ◌≤◌, ◌++◌, length, take, drop}
use Rattle.sw_base.specs.Reading.{last_digits}
use Rattle.sw_base.proofs.reading.write_digits.Given as goal

abbrev pub invariant-loop-pair : goal.invariant-loop-pair
invariant-loop-pair l = record {
  at : l.end + 2 * l._pair ≡ l.start + l.count;
  low : l.start ≤ l.end;
  size : length l.buffer ≡ 32;
  front : take l.start l.buffer ≡ take l.start l.initial.buffer;
  digits : last_digits (l.end - l.start) l.left ++ drop l.end l.buffer ≡ last_digits l.count l.n ++ drop (l.start + l.count) l.initial.buffer;
}
