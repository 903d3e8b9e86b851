use Rattle.std.proofs.Common.{sym, ap, ◌∙◌, arith}
use Rattle.std.specs.Str.{bytes_eq}
use Rattle.sw_rack.proofs.BySlot.{is_slot_here, is_slot_later, is_slot_never}
use Rattle.sw_rack.proofs.slots.is_slot.Goals as goal

pub returns-then-eq : goal.returns-then-eq
returns-then-eq c =
    let same = ap (λ n. bytes_eq n c.args.name.now) (sym c.slot_name.ensures) ∙ sym c.eq.ensures ∙ c.if-eq.true in
    sym (is_slot_here c.loop-before.before c.args.name.now (omega (arith, c.loop-before-test.true)) same) ∙ c.loop-before.invariant

pub loop-before-preserved : goal.loop-before-preserved
loop-before-preserved c =
    let other = ap (λ n. bytes_eq n c.args.name.now) (sym c.slot_name.ensures) ∙ sym c.eq.ensures ∙ c.if-eq.false in
    sym (is_slot_later c.loop-before.before c.args.name.now (omega (arith, c.loop-before-test.true)) other) ∙ c.loop-before.invariant

pub returns : goal.returns
returns c = sym (is_slot_never c.loop-before.before c.args.name.now (omega (arith, c.loop-before-test.false))) ∙ c.loop-before.invariant
