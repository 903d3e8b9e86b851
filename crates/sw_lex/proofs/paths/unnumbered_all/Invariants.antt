use Rattle.std.proofs.Common.{◌≡◌, length, map, take}
use Rattle.sw_lex.specs.Values.{unnumbered}
use Rattle.sw_lex.proofs.paths.unnumbered_all.Given as goal

abbrev pub invariant-loop-node : goal.invariant-loop-node
invariant-loop-node l = record {
  len : length l.plain.items ≡ l.node-index;
  taken : map (λ w. w.now) l.plain.items ≡ map (λ w. unnumbered w.now) (take l.node-index l.nodes);
}
