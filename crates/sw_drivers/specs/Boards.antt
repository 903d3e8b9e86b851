-- A board of coils behind a card's channels.
use Rattle.std.specs.Prelude.{◌≡◌, ◌<◌, ℕ, ◌+◌, ◌-◌, ◌&&◌, Bool, false, List, ◌∷◌, Option, nat_lt, nat_le}
use Rattle.std.specs.Prelude.{length, slice_index_or}
use Rattle.sw_drivers.specs.declared.frame.Request.TheVariants.{Read}
use Rattle.sw_drivers.specs.declared.coils.Coils.{Coils}
use Rattle.sw_drivers.specs.Frames.{bytes_for, frame, tells, wrapped}
use Rattle.sw_drivers.specs.Wires.{IsAll, grown, is_on}

-- whether the channel's coil is on, channel 1's at the first address
abbrev pub channel_on : Coils → (ℕ → ℕ → Bool) → ℕ → Bool
channel_on coils on ch = nat_lt 0 ch && (nat_le ch coils.channels && on coils.unit (coils.first + ch - 1))

-- the driver asked the board for the states of its coils and for nothing else, and the board answered these
pub record HasTold (before sent asked answered : Option (List ℕ)) (coils : Coils) (states : List ℕ) : Type 0 where
  pub number : ℕ
  pub alone : sent ≡ grown before (frame coils.wrapping number coils.unit (Read coils.first coils.channels))
  pub request : IsAll asked (frame coils.wrapping number coils.unit (Read coils.first coils.channels))
  pub size : length states ≡ bytes_for coils.channels
  pub answer : IsAll answered (wrapped coils.wrapping number (coils.unit ∷ tells coils.channels states))

-- the driver last asked the board for the states of its coils, and the board answered these, by channel
pub record HasShown (asked answered : Option (List ℕ)) (coils : Coils) (account : List Bool) : Type 0 where
  pub number : ℕ
  pub states : List ℕ
  pub request : IsAll asked (frame coils.wrapping number coils.unit (Read coils.first coils.channels))
  pub answer : IsAll answered (wrapped coils.wrapping number (coils.unit ∷ tells coils.channels states))
  pub same : (k : ℕ) → k < coils.channels → is_on states k ≡ slice_index_or account (k + 1) false
