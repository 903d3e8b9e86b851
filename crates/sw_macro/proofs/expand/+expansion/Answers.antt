use Rattle.std.proofs.Common.{◌≡◌, ◌++◌, ◌∷◌, [], ℕ, false, List, Ok, Err, length, append_assoc, sym, ap, subst, ◌∙◌, inl, inr}
use Rattle.std.proofs.lemmas.List.{length-map}
use Rattle.std.proofs.lemmas.Result.{err_from_is_err_and, on_ok_weaker, IfErr-weaker}
use Rattle.std.specs.Prelude.{◌⊎◌}
use Rattle.arrayvec.specs.ArrayVec.{ArrayVec}
use Rattle.sw_base.specs.declared.error.ScpiError.{ScpiError}
use Rattle.sw_base.specs.declared.error.ScpiError.TheVariants.{OutOfMemory, MacroRecursionError}
use Rattle.sw_lex.specs.Unit.{unit_of, written_of}
use Rattle.sw_macro.specs.Table.{Macro}
use Rattle.sw_macro.specs.Expansion.{Becomes, UnitBecomes}
use Rattle.sw_macro.specs.Placed.{names_of}
use Rattle.sw_macro.proofs.FillingsLemmas.{long_is, plain_fits, plain_too_long}
use Rattle.sw_macro.proofs.ExpansionsLemmas.{IsRead, place_of, first_of, follows_of, unwritten_keeps, unwritten_ends, unwritten_fails, unwritten_goes}
use Rattle.sw_macro.proofs.ExpansionsLemmas.{none_found, is_too_deep, not_too_deep, unit_unfit, unit_fits}
use Rattle.sw_macro.proofs.expand.+expansion.Goals as goal

-- ---- write_body

pub write_body-cut-requires-clause-stands : goal.write_body-cut-requires-clause-stands
write_body-cut-requires-clause-stands t c =
    let e = rw c.in-Ok-Some.field-0-is at c.in-Ok-Some.ensures.written in (e.0, e.1, e.2)

pub write_body-returns-in_err-write_unit-in-Ok-Some-clause-err : goal.write_body-returns-in_err-write_unit-in-Ok-Some-clause-err
write_body-returns-in_err-write_unit-in-Ok-Some-clause-err t c =
    let ms = c.args.macros.now.macros in
    let names = names_of c.args.names.now.items in
    let body = c.args.body.now in
    let first = c.args.out.now.items in
    let rest = c.units.rest.now in
    let now = c.units.out.items in
    let more = c.in-Ok-Some.more.now in
    let u = unit_of c.in-Ok-Some.unit in
    let w = written_of c.in-Ok-Some.unit in
    let o = c.units.invariant.so_far in
    let e = rw c.in-Ok-Some.field-0-is at c.in-Ok-Some.ensures.written in
    let i : IsRead rest u w more = record {
      before = e.0;
      left = e.1;
      unit = rw c.in-Ok-Some.field-0-is at c.in-Ok-Some.ensures.unit;
      writes = e.2;
      closes = e.3;
    } in
    let round = c.cut.ensures o.front e.0 e.1 o.whole e.2 in
    let kept : c.extend_from_slice.new.self.items ≡ (now ++ o.front) ++ e.0 =
    c.in_ok-extend_from_slice-in-Ok-Some.ensures.items ∙ ap (λ (x : List ℕ). now ++ x) round.0 ∙ sym (append_assoc now o.front e.0) in
    let so : names_of c.units.names.items ≡ names = ap (λ (v : ArrayVec (ArrayVec ℕ)). names_of v.items) c.units.invariant.names in
    let fault = c.in_err-write_unit-in-Ok-Some.field-0.0 in
    let p = err_from_is_err_and c.from_residual-in_err-write_unit-in-Ok-Some.result c.from_residual-in_err-write_unit-in-Ok-Some.ensures.1 in
    rw (p.1, p.2) (elim c.in_err-write_unit-in-Ok-Some.ensures.err as (λ _. (fault ≡ OutOfMemory) ⊎ Becomes ms names body first (Err fault)) [
      | inl h ↦ inl h
      | inr h ↦ inr (unwritten_fails ms names body first c.units.unwritten.now rest now c.extend_from_slice.new.self.items (place_of rest u w more i) fault o
          (first_of rest u w more i) kept
          (subst (λ (x : List (List ℕ)). UnitBecomes ms x u c.extend_from_slice.new.self.items (Err fault)) so h))
    ])

pub write_body-units-preserved-in_ok-write_unit-in-Ok-Some : goal.write_body-units-preserved-in_ok-write_unit-in-Ok-Some
write_body-units-preserved-in_ok-write_unit-in-Ok-Some t c =
    let ms = c.args.macros.now.macros in
    let names = names_of c.args.names.now.items in
    let body = c.args.body.now in
    let first = c.args.out.now.items in
    let rest = c.units.rest.now in
    let now = c.units.out.items in
    let more = c.in-Ok-Some.more.now in
    let u = unit_of c.in-Ok-Some.unit in
    let w = written_of c.in-Ok-Some.unit in
    let o = c.units.invariant.so_far in
    let e = rw c.in-Ok-Some.field-0-is at c.in-Ok-Some.ensures.written in
    let i : IsRead rest u w more = record {
      before = e.0;
      left = e.1;
      unit = rw c.in-Ok-Some.field-0-is at c.in-Ok-Some.ensures.unit;
      writes = e.2;
      closes = e.3;
    } in
    let round = c.cut.ensures o.front e.0 e.1 o.whole e.2 in
    let kept : c.extend_from_slice.new.self.items ≡ (now ++ o.front) ++ e.0 =
    c.in_ok-extend_from_slice-in-Ok-Some.ensures.items ∙ ap (λ (x : List ℕ). now ++ x) round.0 ∙ sym (append_assoc now o.front e.0) in
    let so : names_of c.units.names.items ≡ names = ap (λ (v : ArrayVec (ArrayVec ℕ)). names_of v.items) c.units.invariant.names in
    record {
      names = c.in_ok-write_unit-in-Ok-Some.ensures.names ∙ c.units.invariant.names;
      so_far = unwritten_goes ms names body first c.units.unwritten.now rest now c.extend_from_slice.new.self.items c.write_unit.new.out.items
          c.cut.result.1.now (place_of rest u w more i) o (first_of rest u w more i) kept
          (subst (λ (x : List (List ℕ)). UnitBecomes ms x u c.extend_from_slice.new.self.items (Ok c.write_unit.new.out.items)) so
          c.in_ok-write_unit-in-Ok-Some.ensures.ok)
          (round.1 ∙ follows_of rest u w more i);
    }

pub write_body-units-preserved : goal.write_body-units-preserved
write_body-units-preserved t c =
    let ms = c.args.macros.now.macros in
    let rest = c.units.rest.now in
    let more = c.in-Ok-Some.more.now in
    let u = unit_of c.in-Ok-Some.unit in
    let w = written_of c.in-Ok-Some.unit in
    let e = rw c.in-Ok-Some.field-0-is at c.in-Ok-Some.ensures.written in
    let i : IsRead rest u w more = record {
      before = e.0;
      left = e.1;
      unit = rw c.in-Ok-Some.field-0-is at c.in-Ok-Some.ensures.unit;
      writes = e.2;
      closes = e.3;
    } in
    record {
      names = c.units.invariant.names;
      so_far = unwritten_keeps ms (names_of c.args.names.now.items) c.args.body.now c.args.out.now.items c.units.unwritten.now rest c.units.out.items
          (place_of rest u w more i) c.units.invariant.so_far (first_of rest u w more i)
          (none_found (λ m. (m.0.items, m.1.now)) c.called.result ms u c.called.ensures c.in_default.not-Some);
    }

pub write_body-returns-in-Ok-None-clause-ok : goal.write_body-returns-in-Ok-None-clause-ok
write_body-returns-in-Ok-None-clause-ok t c =
    on_ok_weaker c.write_text.result
    (λ (h : c.write_text.new.out.items ≡ c.units.out.items ++ c.units.unwritten.now).
    unwritten_ends c.args.macros.now.macros (names_of c.args.names.now.items) c.args.body.now c.args.out.now.items c.units.unwritten.now c.units.rest.now
    c.units.out.items c.write_text.new.out.items c.units.invariant.so_far (inl (rw c.in-Ok-None.field-0-is at c.in-Ok-None.ensures.none)) h)
    c.write_text.ensures.ok

pub write_body-returns-in-Err-clause-ok : goal.write_body-returns-in-Err-clause-ok
write_body-returns-in-Err-clause-ok t c =
    on_ok_weaker c.write_text-in-Err.result
    (λ (h : c.write_text-in-Err.new.out.items ≡ c.units.out.items ++ c.units.unwritten.now).
    unwritten_ends c.args.macros.now.macros (names_of c.args.names.now.items) c.args.body.now c.args.out.now.items c.units.unwritten.now c.units.rest.now
    c.units.out.items c.write_text-in-Err.new.out.items c.units.invariant.so_far (inr (c.in-Err.field-0, c.in-Err.ensures.refused)) h)
    c.write_text-in-Err.ensures.ok

-- ---- write_unit

pub write_unit-returns-then-is_too_long-clause-err : goal.write_unit-returns-then-is_too_long-clause-err
write_unit-returns-then-is_too_long-clause-err t c =
    let names = names_of c.args.names.now.items in
    let u = unit_of c.args.unit.now in
    let body = c.args.body.now in
    let sofar = c.args.out.now.items in
    let m : Macro = (c.args.label.items, body) in
    let deep : is_too_deep m names ≡ false =
    not_too_deep m (names_of c.as_slice.result.now) names c.is_one_of.result c.len.result
    (ap (λ (x : List (ArrayVec ℕ)). names_of x) c.as_slice.ensures.value)
    c.is_one_of.ensures c.if-is_one_of.false
    c.if-len-ge-MACRO_LEVELS.false (length-map c.args.names.now.items (λ (x : ArrayVec ℕ). x.items) ∙ sym c.len.ensures.value) in
    let long = long_is c.len-2.result sofar c.as_slice-2.result.now body c.is_too_long.result _ (c.len-2.ensures ∙ c.args.out.now.ok.0) c.as_slice-2.ensures
    c.is_too_long.ensures c.if-is_too_long.true in
    inr (unit_unfit c.args.macros.now.macros names u sofar m MacroRecursionError c.requires deep
    (plain_too_long (length sofar) u.elements body (c.is_plain.ensures c.if-not-is_plain.false) long))

pub write_unit-returns-then-not-calls_none-clause-ok : goal.write_unit-returns-then-not-calls_none-clause-ok
write_unit-returns-then-not-calls_none-clause-ok t c =
    let ms = c.args.macros.now.macros in
    let names = names_of c.args.names.now.items in
    let u = unit_of c.args.unit.now in
    let body = c.args.body.now in
    let sofar = c.args.out.now.items in
    let m : Macro = (c.args.label.items, body) in
    let deep : is_too_deep m names ≡ false =
    not_too_deep m (names_of c.as_slice.result.now) names c.is_one_of.result c.len.result
    (ap (λ (x : List (ArrayVec ℕ)). names_of x) c.as_slice.ensures.value)
    c.is_one_of.ensures c.if-is_one_of.false
    c.if-len-ge-MACRO_LEVELS.false (length-map c.args.names.now.items (λ (x : ArrayVec ℕ). x.items) ∙ sym c.len.ensures.value) in
    let long = long_is c.len-2.result sofar c.as_slice-2.result.now body c.is_too_long.result _ (c.len-2.ensures ∙ c.args.out.now.ok.0) c.as_slice-2.ensures
    c.is_too_long.ensures c.if-is_too_long.false in
    let put = plain_fits (length sofar) u.elements body (c.is_plain.ensures c.if-not-is_plain.false) long in
    let inner = c.as_slice-then-not-calls_none.result.now in
    let done = c.write_within-then-not-calls_none.new.out.items in
    on_ok_weaker c.write_within-then-not-calls_none.result
    (λ (d : Becomes ms (names ++ c.args.label.items ∷ []) inner sofar (Ok done)).
    unit_fits ms names u sofar m body (Ok done) c.requires deep put
    (subst (λ (x : List ℕ). Becomes ms (names ++ c.args.label.items ∷ []) x sofar (Ok done)) c.as_slice-then-not-calls_none.ensures d))
    c.write_within-then-not-calls_none.ensures.ok

pub write_unit-returns-then-not-calls_none-clause-err : goal.write_unit-returns-then-not-calls_none-clause-err
write_unit-returns-then-not-calls_none-clause-err t c =
    let ms = c.args.macros.now.macros in
    let names = names_of c.args.names.now.items in
    let u = unit_of c.args.unit.now in
    let body = c.args.body.now in
    let sofar = c.args.out.now.items in
    let m : Macro = (c.args.label.items, body) in
    let deep : is_too_deep m names ≡ false =
    not_too_deep m (names_of c.as_slice.result.now) names c.is_one_of.result c.len.result
    (ap (λ (x : List (ArrayVec ℕ)). names_of x) c.as_slice.ensures.value)
    c.is_one_of.ensures c.if-is_one_of.false
    c.if-len-ge-MACRO_LEVELS.false (length-map c.args.names.now.items (λ (x : ArrayVec ℕ). x.items) ∙ sym c.len.ensures.value) in
    let long = long_is c.len-2.result sofar c.as_slice-2.result.now body c.is_too_long.result _ (c.len-2.ensures ∙ c.args.out.now.ok.0) c.as_slice-2.ensures
    c.is_too_long.ensures c.if-is_too_long.false in
    let put = plain_fits (length sofar) u.elements body (c.is_plain.ensures c.if-not-is_plain.false) long in
    let inner = c.as_slice-then-not-calls_none.result.now in
    IfErr-weaker c.write_within-then-not-calls_none.result
    (λ e. (e ≡ OutOfMemory) ⊎ Becomes ms (names ++ c.args.label.items ∷ []) inner sofar (Err e))
    (λ e. (e ≡ OutOfMemory) ⊎ UnitBecomes ms names u sofar (Err e))
    (λ (e : ScpiError) d. elim d as (λ _. (e ≡ OutOfMemory) ⊎ UnitBecomes ms names u sofar (Err e)) [
      | inl h ↦ inl h
      | inr h ↦ inr (unit_fits ms names u sofar m body (Err e) c.requires deep put
          (subst (λ (x : List ℕ). Becomes ms (names ++ c.args.label.items ∷ []) x sofar (Err e)) c.as_slice-then-not-calls_none.ensures h))
    ])
    c.write_within-then-not-calls_none.ensures.err

pub write_unit-returns-clause-ok : goal.write_unit-returns-clause-ok
write_unit-returns-clause-ok t c =
    let ms = c.args.macros.now.macros in
    let names = names_of c.args.names.now.items in
    let u = unit_of c.args.unit.now in
    let body = c.args.body.now in
    let sofar = c.args.out.now.items in
    let m : Macro = (c.args.label.items, body) in
    let deep : is_too_deep m names ≡ false =
    not_too_deep m (names_of c.as_slice.result.now) names c.is_one_of.result c.len.result
    (ap (λ (x : List (ArrayVec ℕ)). names_of x) c.as_slice.ensures.value)
    c.is_one_of.ensures c.if-is_one_of.false
    c.if-len-ge-MACRO_LEVELS.false (length-map c.args.names.now.items (λ (x : ArrayVec ℕ). x.items) ∙ sym c.len.ensures.value) in
    let long = long_is c.len-2.result sofar c.as_slice-2.result.now body c.is_too_long.result _ (c.len-2.ensures ∙ c.args.out.now.ok.0) c.as_slice-2.ensures
    c.is_too_long.ensures c.if-is_too_long.false in
    let put = plain_fits (length sofar) u.elements body (c.is_plain.ensures c.if-not-is_plain.false) long in
    let done = c.write_text.new.out.items in
    let stays : Becomes ms (names ++ c.args.label.items ∷ []) body sofar (Ok (sofar ++ body)) =
    c.calls_none.ensures c.if-not-calls_none.false ms (names ++ c.args.label.items ∷ []) sofar in
    on_ok_weaker c.write_text.result
    (λ (h : done ≡ sofar ++ c.as_slice-3.result.now).
    unit_fits ms names u sofar m body (Ok done) c.requires deep put
    (subst (λ (x : List ℕ). Becomes ms (names ++ c.args.label.items ∷ []) body sofar (Ok x))
    (sym (h ∙ ap (λ (x : List ℕ). sofar ++ x) c.as_slice-3.ensures)) stays))
    c.write_text.ensures.ok
