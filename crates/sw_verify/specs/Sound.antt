-- Which lists of items a scan may do, and what they leave closed.
use Rattle.std.specs.Prelude.{◌≡◌, ℕ, ◌≤◌, true, false, List, [], ◌∷◌}
use Rattle.sw_base.specs.Layout.{Channel, Layout, is_present, IsClash}
use Rattle.sw_channel.specs.Positions.{Position}
use Rattle.sw_trigger.specs.Agenda.{Item, Awaits, Close, Open}
use Rattle.sw_trigger.specs.Counts.{reads}
use Rattle.sw_verify.specs.Channels.{Channels, none, with_channel, without, with_each, without_each}

-- c is there and open, and clashes with no closed channel
pub record CanCloseOne (layout : Layout) (closed : Channels) (c : Channel) : Type 0 where
  pub present : is_present layout c ≡ true
  pub was_open : closed c ≡ false
  pub apart : (x : Channel) → closed x ≡ true → IsClash layout c x → ⊥

-- each channel of the position can be closed when its turn comes, those before it being closed then
abbrev pub CanCloseEach : Layout → Channels → Position → Type 0
CanCloseEach layout closed [] = Unit {0}
CanCloseEach layout closed (c ∷ p) = CanCloseOne layout closed c × CanCloseEach layout (with_channel c closed) p

-- each is mine when its turn comes
abbrev pub CanOpenEach : Channels → Position → Type 0
CanOpenEach mine [] = Unit {0}
CanOpenEach mine (c ∷ p) = (mine c ≡ true) × CanOpenEach (without c mine) p

-- Each item may be done when it comes: what is closed can be closed then, and what is opened is mine, that is, an
-- earlier item closed it and nothing opened it since.
abbrev pub AllRight : Layout → Channels → Channels → List Item → Type 0
AllRight layout closed mine [] = Unit {0}
AllRight layout closed mine (Awaits what ∷ items) = AllRight layout closed mine items
AllRight layout closed mine (Close p ∷ items) =
    CanCloseEach layout closed p × AllRight layout (with_each p closed) (with_each p mine) items
AllRight layout closed mine (Open p ∷ items) =
    CanOpenEach mine p × AllRight layout (without_each p closed) (without_each p mine) items

-- the closed set after the items
abbrev pub effect : Channels → List Item → Channels
effect closed [] = closed
effect closed (Awaits what ∷ items) = effect closed items
effect closed (Close p ∷ items) = effect (with_each p closed) items
effect closed (Open p ∷ items) = effect (without_each p closed) items

-- With these channels closed and room for this many readings, a scan may do the items one after the other; they leave
-- closed what was closed.
pub record IsSound (layout : Layout) (closed : Channels) (room : ℕ) (items : List Item) : Type 0 where
  pub right : AllRight layout closed none items
  pub fits : reads items ≤ room
  pub back : (x : Channel) → effect closed items x ≡ closed x
