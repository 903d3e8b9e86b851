use Rattle.std.proofs.Common.{◌∙◌, refl, arith}
use Rattle.sw_base.proofs.Printed.{last_digits-decimal, one_alone, length-decimal_digit}
use Rattle.sw_base.proofs.reading.write_number.Goals as goal

pub returns-then-n-lt10-clause-text : goal.returns-then-n-lt10-clause-text
returns-then-n-lt10-clause-text c = one_alone c.args.buffer.now c.args.start c.args.n (omega arith) c.if-n-lt10.true

pub returns-then-n-lt10-clause-end : goal.returns-then-n-lt10-clause-end
returns-then-n-lt10-clause-end c = omega (arith, length-decimal_digit c.args.n c.if-n-lt10.true)

pub returns-clause-text : goal.returns-clause-text
returns-clause-text c = c.write_digits.ensures ∙ rw (c.width-count.ensures.value, last_digits-decimal c.args.n (omega arith)) refl
