use Rattle.std.proofs.Common.{sym, ◌∙◌}
use Rattle.sw_lex.proofs.ReadingsLemmas.{unnumbered_so, unnumbered_name, unnumbered_digits}
use Rattle.sw_lex.proofs.values.unnumbered.Goals as goal

pub returns-then-all_digits : goal.returns-then-all_digits
returns-then-all_digits c = unnumbered_so _ _ _ c.letters.ensures (sym c.is_form.ensures.named ∙ c.if-is_form.true) (sym c.all_digits.ensures
    ∙ c.if-all_digits.true)

pub returns-else-all_digits : goal.returns-else-all_digits
returns-else-all_digits c = unnumbered_digits _ _ _ c.letters.ensures (sym c.is_form.ensures.named ∙ c.if-is_form.true) (sym c.all_digits.ensures
    ∙ c.if-all_digits.false)

pub returns-else-is_form : goal.returns-else-is_form
returns-else-is_form c = unnumbered_name _ _ _ c.letters.ensures (sym c.is_form.ensures.named ∙ c.if-is_form.false)
