use Rattle.std.proofs.Common.{◌≡◌, ◌≤◌, ◌∷◌, ◌-◌, length, map, take}
use Rattle.std.specs.Char.{to_ascii_uppercase}
use Rattle.sw_base.specs.Text.{is_letter, AllPass}
use Rattle.sw_lex.specs.Packed.{packed, is_byte}
use Rattle.sw_lex.proofs.packing.star_at.Given as goal

abbrev pub invariant-loop-n : goal.invariant-loop-n
invariant-loop-n l = record {
  in_range : l.n ≤ length l.more;
  few : l.n ≤ 6;
  pass : AllPass is_letter (take l.n l.more);
  bytes : AllPass is_byte (map to_ascii_uppercase (take l.n l.more));
  number : l.number ≡ packed (42 ∷ map to_ascii_uppercase (take l.n l.more));
}

abbrev pub decreases-loop-n : goal.decreases-loop-n
decreases-loop-n l = length l.more - l.n
