use Rattle.std.proofs.Common.{arith}
use Rattle.std.proofs.lemmas.List.{take_more_set}
use Rattle.sw_base.proofs.reading.write_minus.Goals as goal

pub returns-then-negative-clause-text : goal.returns-then-negative-clause-text
returns-then-negative-clause-text c = rw c.if-negative.true (take_more_set c.args.buffer.now 0 45 (omega arith))
