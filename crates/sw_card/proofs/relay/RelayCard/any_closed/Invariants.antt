use Rattle.std.proofs.Common.{◌≡◌, ℕ, ◌<◌, ◌+◌, false}
use Rattle.sw_card.specs.Account.{closed_at}
use Rattle.sw_card.proofs.relay.RelayCard.any_closed.Given as goal

abbrev pub invariant-loop-before : goal.invariant-loop-before
invariant-loop-before g l = (k : ℕ) → k < l.before + 1 → closed_at l.self.1.closed k ≡ false
