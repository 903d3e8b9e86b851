use Rattle.sw_lex.proofs.CountedLemmas.{found_some, found_none, nothing_of}
use Rattle.sw_lex.proofs.headers.find.Goals as goal

pub returns-in-empty-clause-none : goal.returns-in-empty-clause-none
returns-in-empty-clause-none c = λ query ws a e p. nothing_of ws c.args.numbers.now query c.in-empty.len_below a

pub returns-in-len1-up-clause-some : goal.returns-in-len1-up-clause-some
returns-in-len1-up-clause-some c = found_some c.args.groups.now c.args.numbers.now _ _ c.in-len1-up.len_at_least c.matching.ensures.some

pub returns-in-len1-up-clause-none : goal.returns-in-len1-up-clause-none
returns-in-len1-up-clause-none c = found_none c.args.groups.now c.args.numbers.now _ _ c.in-len1-up.len_at_least c.matching.ensures.none
