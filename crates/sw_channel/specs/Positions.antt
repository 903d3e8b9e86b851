-- What a position is: the channels that a scan closes together for one reading (this instrument's own).
use Rattle.std.specs.Prelude.{◌≡◌, ℕ, ◌≤◌, false, List, [], ◌∷◌, length, Bool, ◌==◌, ◌&&◌}
use Rattle.std.specs.List.{list_any}
use Rattle.sw_base.specs.Layout.{Channel}

abbrev pub same_channel : Channel → Channel → Bool
same_channel a b = (a.0 == b.0) && (a.1 == b.1)

-- whether a channel is one of a list
abbrev pub is_among : List Channel → Channel → Bool
is_among list x = list_any (same_channel x) list

-- the channels of a position, in the order in which they are closed and opened
abbrev pub Position : Type 0
Position = List Channel

-- channels of a position
abbrev pub most_joined : ℕ
most_joined = 4

-- no channel twice
abbrev pub AreDifferent : List Channel → Type 0
AreDifferent [] = Unit {0}
AreDifferent (c ∷ p) = (is_among p c ≡ false) × AreDifferent p

-- one to four different channels
pub record IsPosition (p : List Channel) : Type 0 where
  pub some : 1 ≤ length p
  pub few : length p ≤ most_joined
  pub different : AreDifferent p

-- a position of one channel
abbrev pub alone : Channel → Position
alone c = c ∷ []
