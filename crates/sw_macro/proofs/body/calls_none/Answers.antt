use Rattle.std.proofs.Common.{◌++◌, refl, inl, inr}
use Rattle.sw_lex.specs.Unit.{unit_of, written_of}
use Rattle.sw_macro.proofs.ExpansionsLemmas.{IsRead, place_of, first_of, unwritten_none, unwritten_keeps, unwritten_ends}
use Rattle.sw_macro.proofs.body.calls_none.Goals as goal

pub units-init : goal.units-init
units-init c = λ ms names first. unwritten_none ms names c.args.text.now first

pub returns-in-Ok-None : goal.returns-in-Ok-None
returns-in-Ok-None c = λ _ ms names sofar.
    let text = c.args.text.now in
    unwritten_ends ms names text sofar text c.units.rest.now sofar (sofar ++ text) (c.units.invariant ms names sofar)
    (inl (rw c.in-Ok-None.field-0-is at c.in-Ok-None.ensures.none)) refl

pub returns-in-Err : goal.returns-in-Err
returns-in-Err c = λ _ ms names sofar.
    let text = c.args.text.now in
    unwritten_ends ms names text sofar text c.units.rest.now sofar (sofar ++ text) (c.units.invariant ms names sofar)
    (inr (c.in-Err.field-0, c.in-Err.ensures.refused)) refl

pub units-preserved : goal.units-preserved
units-preserved c = λ ms names first.
    let text = c.args.text.now in
    let rest = c.units.rest.now in
    let u = unit_of c.in-Ok-Some.unit in
    let w = written_of c.in-Ok-Some.unit in
    let e = rw c.in-Ok-Some.field-0-is at c.in-Ok-Some.ensures.written in
    let i : IsRead rest u w c.in-Ok-Some.more.now = record {
      before = e.0;
      left = e.1;
      unit = rw c.in-Ok-Some.field-0-is at c.in-Ok-Some.ensures.unit;
      writes = e.2;
      closes = e.3;
    } in
    unwritten_keeps ms names text first text rest first (place_of rest u w c.in-Ok-Some.more.now i) (c.units.invariant ms names first)
    (first_of rest u w c.in-Ok-Some.more.now i) (c.may_call.ensures c.if-may_call.false ms)
