use Rattle.std.proofs.Common.{◌≡◌, map, take, length}
use Rattle.std.specs.Char.{to_ascii_uppercase}
use Rattle.sw_lex.specs.Packed.{AreNumbersOf}
use Rattle.sw_lex.proofs.packing.numbers_of.Given as goal

abbrev pub invariant-loop-word : goal.invariant-loop-word
invariant-loop-word l = record {
  len : length l.numbers.items ≡ l.word-index;
  numbers : AreNumbersOf (map (λ w. map to_ascii_uppercase w.now) (take l.word-index l.words)) l.numbers.items;
}
