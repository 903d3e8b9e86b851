use Rattle.std.proofs.Common.{arith, rules, sym, ◌∙◌}
use Rattle.sw_base.proofs.Values.{value_at, value_at_le}
use Rattle.sw_lex.proofs.BlocksLemmas.{nine}
use Rattle.sw_lex.proofs.elements.value.Goals as goal

pub loop-digit-preserved : goal.loop-digit-preserved
loop-digit-preserved c = record {
  rest = search rules;
  small = omega (
    arith,
    c.from.ensures,
    value_at_le c.loop-digit.n c.loop-digit.digit-index c.args.digits.now (omega arith),
    c.loop-digit.invariant.value,
    nine c.args.digits.now c.requires.numeric c.requires.few,
  );
  value = rw c.from.ensures (sym (value_at c.loop-digit.n c.loop-digit.digit-index c.args.digits.now (omega arith)) ∙ c.loop-digit.invariant.value);
}
