use Rattle.std.proofs.Common.{◌≡◌, ◌<◌, ◌++◌, ◌∷◌, [], List, ℕ, length, ap, ◌∙◌, arith}
use Rattle.std.proofs.lemmas.Grind.{common_steps}
use Rattle.sw_talk.proofs.QuotedLemmas.{quoted-first, quoted-next}
use Rattle.sw_talk.proofs.macros.add_label.Goals as goal
use Rattle.sw_talk.proofs.macros.add_label.Goals.{then-not-is_empty+in_ok-push, else-not-is_empty}

pub returns : goal.returns
returns c = λ before is.
    let label = c.args.label.now in
    let begun = c.if-not-is_empty.text.items in
    let whole : c.push-3.new.self.items ≡ ((begun ++ 34 ∷ []) ++ label) ++ 34 ∷ [] = c.in_ok-push-3.ensures.items
    ∙ ap (λ (t : List ℕ). t ++ 34 ∷ []) (c.in_ok-extend_from_slice.ensures.items ∙ ap (λ (t : List ℕ). t ++ label) c.in_ok-push-2.ensures.items) in
    elim c.if-not-is_empty.branch [
      | then-not-is_empty+in_ok-push w ↦
          let some : 0 < length c.args.text.now.items = grind (arith, common_steps) in
          let comma : begun ≡ c.args.text.now.items ++ 44 ∷ [] = grind (arith, common_steps) in
          whole ∙ ap (λ (t : List ℕ). ((t ++ 34 ∷ []) ++ label) ++ 34 ∷ []) comma ∙ quoted-next c.args.text.now.items label before some is
      | else-not-is_empty w ↦
          let none : length c.args.text.now.items ≡ 0 = grind (arith, common_steps) in
          let same : begun ≡ c.args.text.now.items = grind (arith, common_steps) in
          whole ∙ ap (λ (t : List ℕ). ((t ++ 34 ∷ []) ++ label) ++ 34 ∷ []) same ∙ quoted-first c.args.text.now.items label before none is
    ]
