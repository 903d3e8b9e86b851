use Rattle.std.proofs.Common.{◌<◌, length, arith}
use Rattle.std.proofs.lemmas.Grind.{common_steps}
use Rattle.sw_lex.proofs.NumbersLemmas.{plain_numeral}
use Rattle.sw_lex.proofs.numerals.plain_end.Goals as goal

pub returns-then-is_over : goal.returns-then-is_over
returns-then-is_over c =
    let l : 0 < length c.digits.result.0.now = grind (arith, common_steps, c.is_empty.ensures, c.if-not-is_empty.true) in
    plain_numeral _ _ _ c.digits.ensures l (c.is_over.ensures c.if-is_over.true)
