use Rattle.std.proofs.Common.{◌≡◌, true, false, refl, inl, inr, pos}
use Rattle.sw_lex.proofs.ReadingsLemmas.{quantity_is, quantity_suffix}
use Rattle.sw_lex.proofs.values.is_quantity.Goals as goal

pub returns-in-None : goal.returns-in-None
returns-in-None c = (
  λ h. absurd (let z : false ≡ true = h in cc),
  λ q. absurd (c.in-None.ensures.none q.0 q.2.number.after q.2.number.mantissa),
)

pub returns-in-None-read_exponent : goal.returns-in-None-read_exponent
returns-in-None-read_exponent c =
    let m = c.in-Some.ensures.found.0 in (
      λ h. quantity_is _ _ _ _ (pos 0) m (inr (c.in-None-read_exponent.ensures.none, refl, refl)) (c.is_suffix.ensures.0 h),
      λ q. c.is_suffix.ensures.1 (quantity_suffix _ _ _ _ (pos 0) m (inr (c.in-None-read_exponent.ensures.none, refl, refl)) q),
    )

pub returns-in-Some-read_exponent : goal.returns-in-Some-read_exponent
returns-in-Some-read_exponent c =
    let m = c.in-Some.ensures.found.0 in
    let e = c.in-Some-read_exponent.ensures.found.0 in (
      λ h. quantity_is _ _ _ _ _ m (inl (_, _, e, refl)) (c.is_suffix-in-Some-read_exponent.ensures.0 h),
      λ q. c.is_suffix-in-Some-read_exponent.ensures.1 (quantity_suffix _ _ _ _ _ m (inl (_, _, e, refl)) q),
    )
