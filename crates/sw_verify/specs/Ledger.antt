-- What rows of flags show of the closed channels.
use Rattle.std.specs.Prelude.{◌≡◌, ℕ, ◌/◌, ◌%◌, ◌<◌, Bool, true, false, ◌||◌, ◌&&◌, ◌==◌, not}
use Rattle.std.specs.Prelude.{List, [], ◌∷◌, length, slice_index_or}
use Rattle.sw_base.specs.Limits.{channel_places}
use Rattle.sw_base.specs.Layout.{Channel, Layout, group_of, IsClash}
use Rattle.sw_code.specs.Range.{IsInChannelRange}
use Rattle.sw_verify.specs.declared.ledger.Ledger.{Ledger}
use Rattle.sw_verify.specs.Channels.{Channels}
use Rattle.sw_verify.specs.Marks.{place}

-- Of the closed channels b, those that the code closed are m, and the row has m's flags; the others were closed at the
-- start.
pub record TellsRow (start b m : Channels) (row : List Bool) : Type 0 where
  pub split : (x : Channel) → (b x ≡ (start x || m x)) × (m x ≡ true → start x ≡ false)
  pub range : (x : Channel) → m x ≡ true → IsInChannelRange x
  pub size : length row ≡ channel_places
  pub flags : (j : ℕ) → j < channel_places → slice_index_or row j false ≡ m (j / 100, j % 100)

-- a group's flag is set exactly where a closed channel is of it
pub record GroupsTell (layout : Layout) (b : Channels) (row : List Bool) : Type 0 where
  pub size : length row ≡ 256
  pub set :
      (x : Channel) → b x ≡ true → 0 < group_of layout x → group_of layout x < 256
      → slice_index_or row (group_of layout x) false ≡ true
  pub found :
      (g : ℕ) → 0 < g → g < 256 → slice_index_or row g false ≡ true
      → (x : Channel) × (b x ≡ true) × (group_of layout x ≡ g)

-- the ledger of the closed channels b; no closed channel clashes with one that the code closed
pub record Shows (layout : Layout) (start b m : Channels) (l : Ledger) : Type 0 where
  pub mine : TellsRow start b m l.mine
  pub found_size : length l.found ≡ channel_places
  pub found : (c : Channel) → IsInChannelRange c → slice_index_or l.found (place c) false ≡ start c
  pub groups : GroupsTell layout b l.groups
  pub apart : (x y : Channel) → m x ≡ true → b y ≡ true → IsClash layout x y → ⊥

-- the channel at this place is closed, or its group, which is not 0, is taken
abbrev pub is_taken : Ledger → ℕ → ℕ → Bool
is_taken l at group =
    slice_index_or l.found at false
    || (slice_index_or l.mine at false || (not (group == 0) && slice_index_or l.groups group false))

-- the rows of the channels that the code had closed where the open loops began
abbrev pub AreSaved : Channels → List (Channels × Channels) → List (List Bool) → Type 0
AreSaved start [] [] = Unit {0}
AreSaved start [] (row ∷ rows) = ⊥
AreSaved start (s ∷ ss) [] = ⊥
AreSaved start (s ∷ ss) (row ∷ rows) = TellsRow start s.0 s.1 row × AreSaved start ss rows
