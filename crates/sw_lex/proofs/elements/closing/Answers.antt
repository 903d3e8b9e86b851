use Rattle.sw_lex.proofs.QuotesLemmas.{never_closed, closed_at, doubled_on}
use Rattle.sw_lex.proofs.elements.closing.Goals as goal

pub returns-in-None-clause-none : goal.returns-in-None-clause-none
returns-in-None-clause-none c = never_closed _ _ _ _ c.marks.invariant.1 c.in-None.ensures.none

pub returns-in-None-strip_prefix-clause-some : goal.returns-in-None-strip_prefix-clause-some
returns-in-None-strip_prefix-clause-some c =
    let f = c.in-Some.ensures.found in
    (_, closed_at c.args.mark _ c.marks.invariant.0 _ c.in-Some.field-0-0.now _ c.marks.invariant.1 f.0 f.1, c.in-None-strip_prefix.ensures.none)

pub marks-preserved : goal.marks-preserved
marks-preserved c =
    let f = c.in-Some.ensures.found in
    (_, doubled_on c.args.mark _ c.marks.invariant.0 _ c.in-Some.field-0-0.now _ _ c.marks.invariant.1 f.0 f.1 c.in-Some-strip_prefix.ensures.found)
