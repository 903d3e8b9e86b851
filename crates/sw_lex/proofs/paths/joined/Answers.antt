use Rattle.std.proofs.Common.{◌∙◌, sym}
use Rattle.std.proofs.lemmas.Bool.{eqb-true}
use Rattle.sw_lex.proofs.NodesLemmas.{nodes_on, nodes_end, nodes_many}
use Rattle.sw_lex.proofs.paths.joined.Goals as goal

pub returns-then-is_full-clause-none : goal.returns-then-is_full-clause-none
returns-then-is_full-clause-none c =
    nodes_many c.nodes.nodes.items c.nodes.rest.now _ c.nodes.invariant (eqb-true _ 4 (sym c.is_full.ensures.value ∙ c.if-is_full.true))

pub nodes-preserved : goal.nodes-preserved
nodes-preserved c = rw (c.push.ensures.items) (nodes_on _ _ _ _ _ c.nodes.invariant c.in-Some.ensures.found.0 c.in-Some.ensures.found.1)

pub returns-in-None-clause-some : goal.returns-in-None-clause-some
returns-in-None-clause-some c = rw (c.push-in-None.ensures.items) (nodes_end _ _ _ c.nodes.invariant c.in-None.ensures.none)
