use Rattle.std.proofs.Common.{◌≡◌, List, ℕ, [], ◌∷◌, ◌++◌, take, ap, ◌∙◌}
use Rattle.sw_lex.proofs.UnitsLemmas.{common-heads}
use Rattle.sw_lex.proofs.HeadedLemmas.{number_is}
use Rattle.sw_lex.proofs.unit.read_common.Goals as goal

pub returns-clause-ok : goal.returns-clause-ok
returns-clause-ok c =
    let n = c.in_ok-letters.ensures.ok in
    rw (c.split_at-2.ensures.front, c.split_at-2.ensures.back) (common-heads _ _ _ _ c.requires.starred n.0 n.1 n.2)

pub returns-clause-words : goal.returns-clause-words
returns-clause-words c =
    let z : take c.args.words.now.count c.args.words.now.kept ≡ [] = ap (λ (k : ℕ). take k c.args.words.now.kept) c.requires.empty in
    c.push-2.ensures ∙ ap (λ (x : List ℕ). take 5 (x ++ c.number_of.result ∷ [])) z ∙ ap (λ (x : ℕ). x ∷ []) (number_is _ _ c.number_of.ensures)
