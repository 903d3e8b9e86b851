use Rattle.sw_lex.proofs.MeaningsLemmas.{every_spelling}
use Rattle.sw_lex.proofs.meaning.every_spelling.Goals as goal

pub returns : goal.returns
returns c = every_spelling
