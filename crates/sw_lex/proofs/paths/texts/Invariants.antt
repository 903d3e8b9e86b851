use Rattle.std.proofs.Common.{◌≡◌, length, map, take}
use Rattle.sw_lex.specs.Packed.{word_of}
use Rattle.sw_lex.proofs.paths.texts.Given as goal

abbrev pub invariant-loop-number : goal.invariant-loop-number
invariant-loop-number l = record {
  len : length l.texts.items ≡ l.number-index;
  taken : map (λ w. w.items) l.texts.items ≡ map word_of (take l.number-index (take l.path.nodes.count l.path.nodes.kept));
}
