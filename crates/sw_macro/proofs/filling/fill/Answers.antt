use Rattle.std.proofs.Common.{◌++◌, ℕ, Option, Err, subst, sym, ap, ◌∙◌, inr}
use Rattle.std.proofs.lemmas.Result.{err_from_is_err_and}
use Rattle.sw_base.specs.declared.error.ScpiError.{ScpiError}
use Rattle.sw_lex.specs.Unit.{unit_of}
use Rattle.sw_macro.specs.Filling.{IsDraft}
use Rattle.sw_macro.proofs.FillingsLemmas.{filled_more, filled_missing, filled_all, fits, fits_not, missing}
use Rattle.sw_macro.proofs.filling.fill.Goals as goal

pub returns-in-None-2 : goal.returns-in-None-2
returns-in-None-2 c =
    let d = c.parts.invariant in
    let ds = (unit_of c.args.unit.now).elements in
    let body = c.args.body.now in
    let n = c.args.before in
    let rest = c.parts.rest.now in
    inr (fits_not n ds body (d.whole ++ rest) c.put.new.text.items (filled_all ds body rest d.whole d.onward c.in-None.ensures.none)
    (subst (λ (x : Option ℕ). IsDraft n (d.whole ++ rest) c.put.new.text.items x) c.in-None-2.is (c.in_ok-put-in-None.ensures n d.whole d.draft)))

pub returns-in-Some-2 : goal.returns-in-Some-2
returns-in-Some-2 c =
    let d = c.parts.invariant in
    let ds = (unit_of c.args.unit.now).elements in
    let body = c.args.body.now in
    let n = c.args.before in
    let rest = c.parts.rest.now in
    fits n ds body (d.whole ++ rest) c.put.new.text.items c.in-Some-2.field-0 (filled_all ds body rest d.whole d.onward c.in-None.ensures.none)
    (subst (λ (x : Option ℕ). IsDraft n (d.whole ++ rest) c.put.new.text.items x) c.in-Some-2.is (c.in_ok-put-in-None.ensures n d.whole d.draft))

pub returns-in_err-bytes-in-Some : goal.returns-in_err-bytes-in-Some
returns-in_err-bytes-in-Some c =
    let d = c.parts.invariant in
    let ds = (unit_of c.args.unit.now).elements in
    let body = c.args.body.now in
    let p = err_from_is_err_and c.from_residual-in_err-bytes-in-Some.result c.from_residual-in_err-bytes-in-Some.ensures.1 in
    let f = c.in-Some.ensures.found in
    let none = filled_missing ds body c.parts.rest.now d.whole c.in-Some.front.now c.in-Some.more.now d.onward f.1 f.0
    c.in_err-bytes-in-Some.ensures.missing in
    rw (p.1, p.2) (inr (missing c.args.before ds body none ∙ ap (λ (x : ScpiError). Err x) (sym c.in_err-bytes-in-Some.ensures.error)))

pub parts-preserved : goal.parts-preserved
parts-preserved c =
    let d = c.parts.invariant in
    let ds = (unit_of c.args.unit.now).elements in
    let body = c.args.body.now in
    let n = c.args.before in
    let f = c.in-Some.ensures.found in
    let front = c.in-Some.front.now in
    record {
      whole = (d.whole ++ front) ++ c.in_ok-bytes-in-Some.bytes.now;
      draft = c.in_ok-room-in-Some-2.ensures n (d.whole ++ front) (c.in_ok-room-in-Some.ensures n d.whole d.draft);
      onward = filled_more ds body c.parts.rest.now d.whole front c.in-Some.more.now c.in_ok-bytes-in-Some.bytes.now c.in_ok-bytes-in-Some.others.now d.onward
          f.1 f.0 c.in_ok-bytes-in-Some.ensures.ok;
    }
