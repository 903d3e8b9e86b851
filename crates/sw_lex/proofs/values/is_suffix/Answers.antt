use Rattle.std.proofs.Common.{◌≡◌, length, arith}
use Rattle.std.proofs.lemmas.Grind.{common_steps}
use Rattle.sw_lex.proofs.ReadingsLemmas.{suffix_yes, suffix_no}
use Rattle.sw_lex.proofs.values.is_suffix.Goals as goal

pub returns : goal.returns
returns c = (
  λ h. suffix_yes _ _ _ _ _ c.blanks.ensures c.letters.ensures (grind (arith, common_steps, c.is_empty.ensures, h)),
  λ x. let l : length c.letters.result.1.now ≡ 0 = suffix_no _ _ _ _ _ c.blanks.ensures c.letters.ensures x in
      grind (arith, common_steps, c.is_empty.ensures, l),
)
