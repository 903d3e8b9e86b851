use Rattle.std.proofs.Common.{◌≢◌, ℕ, ◌≤◌, None}
use Rattle.sw_base.specs.Layout.{slot_at}
use Rattle.sw_core.proofs.sessions.Sessions.free_number.Given as goal

abbrev pub invariant-loop-before : goal.invariant-loop-before
invariant-loop-before l = (k : ℕ) → 1 ≤ k → k ≤ l.before → slot_at l.seats k ≢ None
