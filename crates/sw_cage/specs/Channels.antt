-- All channels that there can be, in order.
use Rattle.std.specs.Prelude.{ℕ, zero, suc, List, [], ◌∷◌, ◌++◌}
use Rattle.std.specs.List.{filter}
use Rattle.sw_base.specs.Limits.{most_slots, most_channels}
use Rattle.sw_base.specs.Layout.{Channel}
use Rattle.sw_cage.specs.Accounts.{Accounts, is_closed}

-- the channels of a slot up to this one
unfoldable pub row : ℕ → ℕ → List Channel
row slot zero = []
row slot (suc ch) = row slot ch ++ (slot, suc ch) ∷ []

-- the channels of each slot up to this one
unfoldable pub rows : ℕ → List Channel
rows zero = []
rows (suc slot) = rows slot ++ row (suc slot) most_channels

-- the closed channels by slot and channel
abbrev pub closed_list : Accounts → List Channel
closed_list rack = filter (is_closed rack) (rows most_slots)
