-- Bytes that are left to a session's second thread.
use Rattle.std.proofs.Common.{ℕ, List, Result, Ok, Err, OnErr}
use Rattle.sw_connections.specs.declared.side.Refused.{Refused}
use Rattle.sw_connections.specs.Side.{Waiting, Leaves, Refuses}

-- they were refused for a cause
pub refused-so : (old : Waiting) (bytes : List ℕ) (result : Result (Unit {0}) Refused) (new : Waiting) → Leaves old bytes result new
    → OnErr result ((waiting : Waiting) × (more : List ℕ) × (why : Refused) × Refuses waiting more why)
refused-so old bytes (Ok done) new leaves = tt
refused-so old bytes (Err why) new leaves = (old, bytes, why, leaves.0)
