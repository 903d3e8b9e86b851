use Rattle.std.proofs.Common.{ap, inl, sym, subst, Err}
use Rattle.sw_lex.specs.Unit.{unit_of, heading_of}
use Rattle.sw_lex.specs.Meaning.{Nodes, looked_up, path_of, Resolves}
use Rattle.sw_lex.proofs.NodesLemmas.{refused_is}
use Rattle.sw_lex.proofs.meaning.resolve.Goals as goal

pub returns-in-None : goal.returns-in-None
returns-in-None c =
    let u = c.args.unit.now in
    let old = path_of c.args.path.now in
    let stays = c.in-None.ensures.stays in
    subst (λ (p : Nodes). Resolves (unit_of u) old (Err c.refused.result) p) (sym stays)
    (refused_is (unit_of u) old _ c.refused.result (ap (λ (b : Nodes). looked_up (heading_of u.header) b) stays) c.in-None.ensures.none c.refused.ensures)

pub returns-in-Some : goal.returns-in-Some
returns-in-Some c =
    inl (record {
      key = c.in-Some.key;
      number = c.in-Some.number;
      found = c.in-Some.ensures.some;
      decoded = c.decode.ensures;
      onward = c.in-Some.ensures.onward;
    })
