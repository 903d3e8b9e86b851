use Rattle.std.proofs.Common.{◌≤◌, length, vec_capacity}
use Rattle.std.specs.Io.KnownBytes.{Consumes}
use Rattle.sw_connections.specs.Reads.{Waited}
use Rattle.sw_connections.proofs.reading.read_header.Given as goal

abbrev pub invariant-loop : goal.invariant-loop
invariant-loop g l =
    (goal.iterator-loop g).can_next l.iterator' × (goal.iterator-loop g).is_finite l.iterator'
    × Consumes (g.R.ByteSource.remaining l.fn.reader) (g.R.ByteSource.remaining l.reader) l.header.items
    × Waited (g.R.ByteSource.pauses l.fn.reader) (g.R.ByteSource.pauses l.reader)
    × (length l.header.items ≤ 16)
    × (16 ≤ vec_capacity l.header)
