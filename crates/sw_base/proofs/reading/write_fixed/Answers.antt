use Rattle.std.proofs.Common.{◌≡◌, ◌+◌, ◌∙◌, length, take, arith}
use Rattle.std.specs.Fmt.{decimal}
use Rattle.std.proofs.lemmas.List.{length-take-le}
use Rattle.sw_base.specs.Reading.{last_digits}
use Rattle.sw_base.proofs.Printed.{one_point}
use Rattle.sw_base.proofs.reading.write_fixed.Goals as goal

pub returns-clause-text : goal.returns-clause-text
returns-clause-text c =
    let old = c.args.buffer.now in
    let front : length (take c.args.start old) + length (decimal c.args.whole) ≡ c.write_number-point.result =
    omega (arith, length-take-le c.args.start old (omega arith)) in
    c.write_digits.ensures ∙ rw c.write_number-point.ensures.text
    (one_point old (take c.args.start old) (decimal c.args.whole) (last_digits c.args.places c.args.n) c.write_number-point.result c.args.places front
    (omega arith))
