use Rattle.std.proofs.Common.{◌≡◌, true, refl, inl}
use Rattle.sw_lex.proofs.ReadingsLemmas.{quantity_by, no_quantity}
use Rattle.sw_lex.proofs.values.quantity.Goals as goal

pub returns-then-is_suffix : goal.returns-then-is_suffix
returns-then-is_suffix c =
    (quantity_by _ _ _ _ _ c.in-Ok.ensures.number c.blanks.ensures (c.is_suffix.ensures.0 c.if-is_suffix.true), c.in-Ok.ensures.within)

pub returns-else-is_suffix : goal.returns-else-is_suffix
returns-else-is_suffix c =
    inl (
      no_quantity _ _ _ c.in-Ok.ensures.number (λ x. let t : c.is_suffix.result ≡ true = c.is_suffix.ensures.1 x in cc),
      refl,
    )
