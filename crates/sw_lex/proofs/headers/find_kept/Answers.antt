use Rattle.std.proofs.Common.{arith}
use Rattle.sw_lex.proofs.AskedLemmas.{kept_some, kept_none, kept_many}
use Rattle.sw_lex.proofs.headers.find_kept.Goals as goal

pub returns-then-numbers-gt4-clause-none : goal.returns-then-numbers-gt4-clause-none
returns-then-numbers-gt4-clause-none c =
    λ query ws a e p. kept_many ws c.args.numbers.now query (omega (arith, c.if-numbers-gt4.true)) a

pub returns-clause-some : goal.returns-clause-some
returns-clause-some c = kept_some c.args.groups.now c.args.numbers.now c.find.result c.if-numbers-gt4.false c.find.ensures.some

pub returns-clause-none : goal.returns-clause-none
returns-clause-none c = kept_none c.args.groups.now c.args.numbers.now c.find.result c.if-numbers-gt4.false c.find.ensures.none
