use Rattle.std.proofs.Common.{arith}
use Rattle.sw_macro.proofs.LimitsKeptLemmas.{makes_macro}
use Rattle.sw_macro.proofs.table.Macros.define.Goals as goal

pub append-requires-clause-good : goal.append-requires-clause-good
append-requires-clause-good c =
    let read = c.in-Some.ensures.some in
    makes_macro c.in-Some.key.items c.args.label.now c.args.body.now read.0 read.1 (omega arith)
