use Rattle.sw_lex.proofs.MeaningsLemmas.{one_meaning}
use Rattle.sw_lex.proofs.meaning.one_meaning.Goals as goal

pub returns : goal.returns
returns c = one_meaning
