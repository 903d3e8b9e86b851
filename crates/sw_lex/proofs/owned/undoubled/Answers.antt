use Rattle.sw_lex.proofs.QuotesLemmas.{never_closed, closed_content, doubled_on}
use Rattle.sw_lex.proofs.owned.undoubled.Goals as goal

pub returns-in-None : goal.returns-in-None
returns-in-None c content e = absurd (never_closed c.args.mark _ _ _ c.marks.invariant c.in-None.ensures.none content _ e tt)

pub returns-in-None-strip_prefix : goal.returns-in-None-strip_prefix
returns-in-None-strip_prefix c content e =
    let f = c.in-Some.ensures.found in
    rw c.in_ok-extend_from_slice-in-Some.ensures.items
    (closed_content c.args.mark _ _ _ _ _ content c.marks.invariant f.0 f.1 c.in-None-strip_prefix.ensures.none e)

pub marks-preserved : goal.marks-preserved
marks-preserved c =
    let f = c.in-Some.ensures.found in
    rw (
      c.in_ok-push-in-Some-strip_prefix.ensures.items,
      c.in_ok-extend_from_slice-in-Some.ensures.items,
    ) (doubled_on c.args.mark _ _ _ _ _ _ c.marks.invariant f.0 f.1 c.in-Some-strip_prefix.ensures.found)
