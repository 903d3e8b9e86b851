use Rattle.std.proofs.Common.{◌≡◌, ◌<◌, ◌∷◌, ◌++◌, [], List, Bool, length, reverse, get_or, ap, ◌∙◌, arith}
use Rattle.std.proofs.lemmas.List.{length-reverse}
use Rattle.std.proofs.lemmas.Grind.{common_steps}
use Rattle.sw_verify.proofs.saved.SavedRows.pop_same.Goals as goal

-- the first of two lists that stand one after another is the first one's
first_of : (xs ys : List (List Bool)) (row : List Bool) (rest : List (List Bool)) → 0 < length xs → xs ++ ys ≡ row ∷ rest
    → ((tail : List (List Bool)) → xs ≡ row ∷ tail → ⊥) → ⊥
first_of [] ys row rest some e other = absurd (omega (arith, some))
first_of (x ∷ xs) ys row rest some e other =
    other xs (ap (λ (r : List Bool). r ∷ xs) (ap (λ (l : List (List Bool)). get_or l 0 x) e))

pub returns-then-not-is_empty-clause-other : goal.returns-then-not-is_empty-clause-other
returns-then-not-is_empty-clause-other c = λ no rest e.
    let kept = c.self.inside.kept in
    let some : 0 < length kept.items = grind (arith, common_steps, c.is_empty.ensures, c.if-not-is_empty.true, kept.ok.0) in
    let turned : length (reverse kept.items) ≡ length kept.items = length-reverse kept.items in
    first_of (reverse kept.items) _ c.args.row.now rest (omega (arith, some, turned)) (c.self.view_is ∙ e) (c.let_go.ensures.other no)
