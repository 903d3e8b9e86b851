use Rattle.std.proofs.Common.{arith}
use Rattle.sw_lex.proofs.PackedLemmas.{numbers_more}
use Rattle.sw_lex.proofs.packing.numbers_of.Goals as goal

pub loop-word-preserved : goal.loop-word-preserved
loop-word-preserved c = record {
  len = omega (arith, c.push.ensures.len, c.loop-word.invariant.len);
  numbers = rw c.push.ensures.items (numbers_more _ _ _ _ _ (omega arith) c.number_of.ensures c.loop-word.invariant.numbers);
}
