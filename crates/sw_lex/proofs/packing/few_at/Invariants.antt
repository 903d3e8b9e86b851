use Rattle.std.proofs.Common.{◌≡◌, ◌≤◌, ◌-◌, length, map, take}
use Rattle.std.specs.Char.{to_ascii_uppercase}
use Rattle.sw_base.specs.Text.{is_word, AllPass}
use Rattle.sw_lex.specs.Packed.{packed, is_byte}
use Rattle.sw_lex.proofs.packing.few_at.Given as goal

abbrev pub invariant-loop-n : goal.invariant-loop-n
invariant-loop-n l = record {
  in_range : l.n ≤ length l.text;
  few : l.n ≤ 7;
  pass : AllPass is_word (take l.n l.text);
  bytes : AllPass is_byte (map to_ascii_uppercase (take l.n l.text));
  number : l.number ≡ packed (map to_ascii_uppercase (take l.n l.text));
}

abbrev pub decreases-loop-n : goal.decreases-loop-n
decreases-loop-n l = length l.text - l.n
