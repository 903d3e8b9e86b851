use Rattle.std.proofs.Common.{◌≡◌, ◌≤◌, length, arith}
use Rattle.std.specs.Fmt.{decimal}
use Rattle.std.proofs.lemmas.Fmt.{length-decimal-le}
use Rattle.sw_base.proofs.Printed.{length-decimal_step, length-decimal_digit}
use Rattle.sw_base.proofs.reading.width.Goals as goal

pub overflow_add-count : goal.overflow_add-count
overflow_add-count c =
    let all : length (decimal c.args.n) ≤ 20 = length-decimal-le 20 c.args.n (omega arith) (omega arith) (omega arith) in
    omega arith

pub loop-left-preserved : goal.loop-left-preserved
loop-left-preserved c = record {
  counted = omega (arith, length-decimal_step c.loop-left.left (omega arith) (omega arith));
  low = omega arith;
}

pub returns-clause-value : goal.returns-clause-value
returns-clause-value c = omega (arith, length-decimal_digit c.loop-left.left (omega arith))

pub returns-clause-within : goal.returns-clause-within
returns-clause-within c =
    let all : length (decimal c.args.n) ≤ 20 = length-decimal-le 20 c.args.n (omega arith) (omega arith) (omega arith) in
    let one : length (decimal c.loop-left.left) ≡ 1 = length-decimal_digit c.loop-left.left (omega arith) in
    (omega arith, omega arith)
