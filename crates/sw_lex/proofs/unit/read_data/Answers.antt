use Rattle.std.proofs.Common.{subst, List, ℕ, inr}
use Rattle.std.proofs.lemmas.Result.{err_from_is_err_and}
use Rattle.sw_base.specs.Text.{is_blank, Spans}
use Rattle.sw_lex.proofs.UnitsLemmas.{reaches_more, reaches_last, data-push, stuck-refused, held}
use Rattle.sw_lex.proofs.WrittenLemmas.{joined_last}
use Rattle.sw_lex.proofs.unit.read_data.Goals as goal

pub returns-in-Some-clause-ok : goal.returns-in-Some-clause-ok
returns-in-Some-clause-ok c =
    rw (c.add.ensures.items, data-push) (reaches_last _ _ _ _ _ c.data.invariant (record {
      after = c.in_ok-next.after.now;
      gap = c.blanks.result.0.now;
      end = c.blanks.result.1.now;
      element = c.in_ok-next.ensures.ok;
      before = c.blanks.ensures;
      ends = c.in-Some.ensures.found;
    }))

pub returns-in-Some-clause-joined : goal.returns-in-Some-clause-joined
returns-in-Some-clause-joined c =
    rw (c.add.ensures.items, data-push) (joined_last _ _ _ _ _ c.data.invariant c.in_ok-next.ensures.ok)

pub data-preserved : goal.data-preserved
data-preserved c =
    rw (c.add-in-Some-strip_prefix.ensures.items, data-push) (reaches_more _ _ _ _ _ c.data.invariant (record {
      after = c.in_ok-next.after.now;
      gap = c.blanks.result.0.now;
      others = c.in-Some-strip_prefix.others.now;
      space = c.blanks-in-Some-strip_prefix.result.0.now;
      element = c.in_ok-next.ensures.ok;
      before = subst (λ (t : List ℕ). Spans is_blank c.in_ok-next.after.now c.blanks.result.0.now t) c.in-Some-strip_prefix.ensures.found c.blanks.ensures;
      behind = c.blanks-in-Some-strip_prefix.ensures;
    }))

pub returns-in_err-next-clause-err : goal.returns-in_err-next-clause-err
returns-in_err-next-clause-err c =
    let p = err_from_is_err_and c.from_residual.result c.from_residual.ensures.1 in
    rw (p.1, p.2) (stuck-refused _ _ _ _ _ c.data.invariant (held _ _ c.data.found.whole c.data.found.few) c.data.found.few c.in_err-next.ensures.err)

pub returns-in-None-strip_prefix-clause-err : goal.returns-in-None-strip_prefix-clause-err
returns-in-None-strip_prefix-clause-err c =
    stuck-refused _ _ _ _ _ c.data.invariant (held _ _ c.data.found.whole c.data.found.few) c.data.found.few (inr (inr (
      c.in_ok-next.ensures.room,
      inr (record {
        datum = _;
        after = c.in_ok-next.after.now;
        gap = c.blanks.result.0.now;
        more = c.blanks.result.1.now;
        element = c.in_ok-next.ensures.ok;
        before = c.blanks.ensures;
        on = c.in-None.ensures.none;
        off = c.in-None-strip_prefix.ensures.none;
        error = c.fault_at.ensures;
      }),
    )))
