use Rattle.std.proofs.Common.{◌≡◌, ◌≤◌, drop}
use Rattle.sw_base.specs.Text.{is_digit, AllPass}
use Rattle.sw_base.specs.Number.{value_after}
use Rattle.sw_lex.proofs.elements.value.Given as goal

abbrev pub invariant-loop-digit : goal.invariant-loop-digit
invariant-loop-digit l = record {
  rest : AllPass is_digit (drop l.digit-index l.digits);
  small : l.n ≤ 999999999;
  value : value_after l.n (drop l.digit-index l.digits) ≡ value_after 0 l.digits;
}
