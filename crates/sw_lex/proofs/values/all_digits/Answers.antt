use Rattle.std.proofs.Common.{arith}
use Rattle.std.proofs.lemmas.Grind.{common_steps}
use Rattle.sw_lex.proofs.ReadingsLemmas.{digits_all}
use Rattle.sw_lex.proofs.values.all_digits.Goals as goal

pub returns : goal.returns
returns c = digits_all _ _ _ _ c.digits.ensures (λ h. grind (arith, common_steps, c.is_empty.ensures, h))
    (λ h. grind (arith, common_steps, c.is_empty.ensures, h))
