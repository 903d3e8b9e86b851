use Rattle.std.proofs.Common.{refl, arith}
use Rattle.sw_base.proofs.Printed.{pair_at}
use Rattle.sw_base.proofs.reading.write_pair.Goals as goal

pub returns : goal.returns
returns c = let p = pair_at c.args.pair (omega arith) in rw (p.0, p.1) refl
