use Rattle.std.proofs.Common.{◌≡◌, ℕ, List, [], ◌∷◌, false, length, replicate, ap, sym, ◌∙◌, arith, inl, inr, eqb}
use Rattle.std.specs.Cmp.Lexicographic.{pointwise}
use Rattle.std.proofs.lemmas.Grind.{common_steps}
use Rattle.sw_base.specs.Limits.{channel_places}
use Rattle.sw_verify.specs.Rows.{flags_of, row_words}
use Rattle.sw_verify.proofs.Flags.{flags_nothing, one_row, same_words, words_self}
use Rattle.sw_verify.proofs.row.Row.is_as.Goals as goal

nothing : (words : List ℕ) → length words ≡ 0 → flags_of words ≡ replicate channel_places false
nothing [] e = flags_nothing
nothing (w ∷ words) e = absurd (omega (arith, e))

pub returns-then-is_empty : goal.returns-then-is_empty
returns-then-is_empty c =
    let empty : length c.kept.inside.words.items ≡ 0 =
    grind (arith, common_steps, c.is_empty.ensures, c.if-is_empty.true, c.kept.inside.words.ok.0) in
    let clear : c.args.kept.now ≡ replicate channel_places false = sym c.kept.view_is ∙ nothing c.kept.inside.words.items empty in
    (λ h. c.is_clear.ensures.0 h ∙ sym clear, λ e. c.is_clear.ensures.1 (e ∙ clear))

pub returns : goal.returns
returns c =
    let words = c.self.inside.words in
    let kept = c.kept.inside.words.items in
    let tests : c.eq.result ≡ pointwise eqb words kept =
    c.eq.ensures ∙ ap (λ (l : List ℕ). pointwise eqb l c.as_slice-2.result.now) c.as_slice.ensures ∙ ap (pointwise eqb words) c.as_slice-2.ensures.value in
    let whole : length kept ≡ row_words = elim c.kept.invariant.size [
      | inl none ↦ let some : ⊥ = grind (arith, common_steps, c.is_empty.ensures, c.if-is_empty.false, c.kept.inside.words.ok.0, none) in absurd some
      | inr h ↦ h
    ] in (
      λ h. sym c.self.view_is ∙ ap flags_of (same_words words kept (sym tests ∙ h)) ∙ c.kept.view_is,
      λ e.
          let same = c.self.view_is ∙ e ∙ sym c.kept.view_is in
          let own = c.self.invariant in
          let other = c.kept.invariant in
          let one = one_row words kept own.size whole own.no_more other.no_more own.fit other.fit same in
          tests ∙ ap (pointwise eqb words) (sym one) ∙ words_self words,
    )
