use Rattle.std.proofs.Common.{map, sym, ◌∙◌}
use Rattle.std.specs.Char.{to_ascii_uppercase}
use Rattle.sw_lex.proofs.FormsLemmas.{is_form_yes, is_form_so, named_is}
use Rattle.sw_lex.proofs.headers.is_form.Goals as goal

pub returns-clause-form : goal.returns-clause-form
returns-clause-form c = (λ h. is_form_yes _ _ (sym c.is_rest.ensures ∙ h), λ h. c.is_rest.ensures ∙ is_form_so _ _ h)

pub returns-clause-named : goal.returns-clause-named
returns-clause-named c =
    named_is c.is_rest.result c.args.form.now (map to_ascii_uppercase c.args.word.now)
    (λ h. is_form_yes _ _ (sym c.is_rest.ensures ∙ h), λ h. c.is_rest.ensures ∙ is_form_so _ _ h)
