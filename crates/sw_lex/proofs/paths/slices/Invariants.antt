use Rattle.std.proofs.Common.{◌≡◌, length, map, take}
use Rattle.sw_lex.proofs.paths.slices.Given as goal

abbrev pub invariant-loop-text : goal.invariant-loop-text
invariant-loop-text l = record {
  len : length l.nodes.items ≡ l.text-index;
  taken : map (λ w. w.now) l.nodes.items ≡ map (λ node. node.items) (take l.text-index l.texts);
}
