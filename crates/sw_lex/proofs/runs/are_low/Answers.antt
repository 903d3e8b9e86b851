use Rattle.std.proofs.Common.{arith}
use Rattle.std.proofs.lemmas.Bool.{ltb-true}
use Rattle.sw_lex.proofs.InnersLemmas.{low_all}
use Rattle.sw_lex.proofs.runs.are_low.Goals as goal

pub returns : goal.returns
returns c h = low_all _ _ (λ k l. c.loop-byte.invariant k (omega (arith, l))) (ltb-true c.loop-byte.greatest 127 h)
