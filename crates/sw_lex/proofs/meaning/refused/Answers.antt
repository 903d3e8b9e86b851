use Rattle.std.proofs.Common.{◌≡◌, ◌<◌, length, map, subst, ap, ◌∙◌}
use Rattle.sw_lex.specs.Unit.{heading_of}
use Rattle.sw_lex.specs.Meaning.{Nodes, IsRefusal, looked_up, path_of}
use Rattle.sw_lex.proofs.AskedLemmas.{many_refused}
use Rattle.sw_lex.proofs.meaning.refused.Goals as goal

pub returns-in-None : goal.returns-in-None
returns-in-None c =
    let e : map (λ w. w.items) c.as_slice.result.now ≡ path_of c.args.path.now = rw c.as_slice.ensures.value c.texts-below.ensures in
    many_refused _ _ (subst (λ (b : Nodes). 4 < length (looked_up (heading_of c.args.header) b)) e c.in-None.ensures.none)

pub returns-in-Some : goal.returns-in-Some
returns-in-Some c =
    let e : map (λ w. w.items) c.as_slice.result.now ≡ path_of c.args.path.now = rw c.as_slice.ensures.value c.texts-below.ensures in
    subst (λ (x : Nodes). IsRefusal x c.args.query c.refusal.result)
    (c.in-Some.ensures.some ∙ ap (λ (b : Nodes). looked_up (heading_of c.args.header) b) e) (rw c.as_slice-in-Some.ensures.value at c.refusal.ensures)
