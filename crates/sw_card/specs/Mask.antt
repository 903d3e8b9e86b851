-- Sets of a card's channels as one number: bit ch - 1 is channel ch (own).
use Rattle.std.specs.Prelude.{◌≡◌, ℕ, ◌-◌, Bool, ◌&&◌, ◌==◌, nat_lt, List, map}
use Rattle.std.specs.Int.{bit_at}
use Rattle.std.specs.List.{range_with_len}
use Rattle.sw_card.specs.Account.{closed_at}

-- whether the channel is in the set; there is no channel 0
abbrev pub in_mask : ℕ → ℕ → Bool
in_mask mask ch = nat_lt 0 ch && (bit_at mask (ch - 1) == 1)

-- for each of this many channels, from channel 1 on, whether it is in the set
abbrev pub states_of : ℕ → ℕ → List Bool
states_of mask channels = map (in_mask mask) (range_with_len 1 channels)

-- exactly the closed channels are in the set
abbrev pub IsMaskOf : ℕ → List Bool → Type 0
IsMaskOf mask closed = (ch : ℕ) → in_mask mask ch ≡ closed_at closed ch
