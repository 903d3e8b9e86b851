use Rattle.std.proofs.Common.{◌≡◌, length, map, ◌++◌}
use Rattle.sw_lex.specs.Split.{nodes_of}
use Rattle.sw_lex.proofs.paths.joined.Given as goal

abbrev pub invariant-nodes : goal.invariant-nodes
invariant-nodes l = map (λ w. w.now) l.nodes.items ++ nodes_of l.rest ≡ map (λ w. w.now) l.fn.nodes.items ++ nodes_of l.text

abbrev pub decreases-nodes : goal.decreases-nodes
decreases-nodes l = length l.rest
