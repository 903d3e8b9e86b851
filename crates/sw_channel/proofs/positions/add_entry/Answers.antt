use Rattle.std.proofs.Common.{arith}
use Rattle.sw_channel.proofs.Judging.{entry_within}
use Rattle.sw_channel.proofs.positions.add_entry.Goals as goal

pub returns-in-Ok-entry-clause-within : goal.returns-in-Ok-entry-clause-within
returns-in-Ok-entry-clause-within c i j =
    let value = c.count.ensures.value in
    let within = entry_within c.in-Ok.known.count i c.in-Ok-entry.entry (rw (c.in-Ok.is, c.in-Ok-entry.is) at j) in
    omega (arith, value, within)
