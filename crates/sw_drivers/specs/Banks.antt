-- A row of relays, each with a group of its own.
use Rattle.std.specs.Prelude.{◌≡◌, ℕ, List, length}
use Rattle.sw_card.specs.Account.{Account}

-- these are the groups of a row's channels, which has none by itself
pub record AreOf (groups : List ℕ) (row : Account) : Type 0 where
  pub channels : length row.groups ≡ length groups
  pub states : length row.closed ≡ length groups
