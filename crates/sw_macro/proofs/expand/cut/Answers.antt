use Rattle.std.proofs.Common.{◌≡◌, ◌++◌, List, ℕ, sym, ap, ◌∙◌}
use Rattle.sw_lex.specs.Unit.{unit_of, written_of}
use Rattle.sw_macro.proofs.CutsLemmas.{cut_at, written_within, left_is}
use Rattle.sw_macro.proofs.expand.cut.Goals as goal

pub split_at-requires-2 : goal.split_at-requires-2
split_at-requires-2 c =
    let f = c.requires.ends in
    let s = c.requires.stands in
    let t = cut_at c.args.text.now f.0 c.args.rest.now c.gaps.result.0.now c.gaps.result.1.now s.0 (written_of c.args.unit.now) s.1 (unit_of c.args.unit.now)
    f.1 c.gaps.ensures s.2 in
    written_within c.split_at.result.1.now c.text.result.now s.1
    (c.split_at.ensures.back ∙ t.1 ∙ t.2 ∙ ap (λ (x : List ℕ). x ++ s.1) (sym c.text.ensures))

pub returns : goal.returns
returns c = λ front before left e k.
    let t = cut_at c.args.text.now front c.args.rest.now c.gaps.result.0.now c.gaps.result.1.now before (written_of c.args.unit.now) left
    (unit_of c.args.unit.now) e c.gaps.ensures k in
    let here : c.split_at.result.1.now ≡ c.text.result.now ++ left =
    c.split_at.ensures.back ∙ t.1 ∙ t.2 ∙ ap (λ (x : List ℕ). x ++ left) (sym c.text.ensures) in
    (c.split_at.ensures.front ∙ t.0, c.split_at-2.ensures.back ∙ left_is c.split_at.result.1.now c.text.result.now left here)
