-- A row of relays over a driver: what it counts as closed, and what a fault changes.
use Rattle.std.specs.Prelude.{◌≡◌, ℕ, ◌+◌, ◌%◌, ◌^◌, ◌≤◌, Bool, true}
use Rattle.sw_base.specs.Limits.{most_channels}
use Rattle.sw_card.specs.Account.{Account, closed_at}
use Rattle.sw_card.specs.Mask.{states_of}

-- A row of `channels` channels counts every driven channel among the closed ones.
pub record HoldsDriven (driven : ℕ → Bool) (channels mask : ℕ) : Type 0 where
  pub some : 1 ≤ channels
  pub few : channels ≤ most_channels
  pub held : (k : ℕ) → driven k ≡ true → closed_at (states_of mask channels) k ≡ true

-- the card with one more failure counted
abbrev pub failure_counted : Account → Account
failure_counted a = record a { failures = (a.failures + 1) % 2 ^ 64 }
