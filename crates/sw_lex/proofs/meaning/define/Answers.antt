use Rattle.std.proofs.Common.{inl, refl, ap, ◌∙◌, Ok, Err}
use Rattle.std.proofs.lemmas.Result.{err_from_is_err_and}
use Rattle.sw_base.specs.declared.error.ScpiError.{ScpiError}
use Rattle.sw_base.specs.declared.error.ScpiError.TheVariants.{OutOfMemory}
use Rattle.sw_lex.proofs.meaning.define.Goals as goal

-- there was no memory for the box
pub returns-in_err-definition-in-Ok-body : goal.returns-in_err-definition-in-Ok-body
returns-in_err-definition-in-Ok-body c =
    let p = err_from_is_err_and c.from_residual.result c.from_residual.ensures.1 in (
      Ok c.in-Ok.label,
      c.in-Ok.ensures,
      (Err OutOfMemory, inl (c.in-Ok-body.body, c.in-Ok-body.ensures, refl), p.1 ∙ ap (λ (e : ScpiError). Err e) p.2),
    )
