-- What the slots of a cage hold, and which two channels must never be closed together.
use Rattle.std.specs.Prelude.{◌≡◌, ◌≢◌, ℕ, ◌-◌, Bool, true, false, nat_lt, nat_le, ◌&&◌, List, length, Option, Some}
use Rattle.std.specs.Prelude.{None, slice_index_or, if◌then◌else◌}

-- a channel: its slot and its number on its card, both from 1
abbrev pub Channel : Type 0
Channel = ℕ × ℕ

-- what a slot holds: relays, by the group of each from channel 1 on, where 0 is no group; or a meter
pub data SlotContents : Type 0 where
  relays : (groups : List ℕ) → SlotContents
  meter : SlotContents

-- what the slots hold, from slot 1 on
abbrev pub Layout : Type 0
Layout = List (Option SlotContents)

-- a slot of a row of slots; there is no slot 0
abbrev pub slot_at : {A : Type 0} → List (Option A) → ℕ → Option A
slot_at slots slot = if nat_lt 0 slot then slice_index_or slots (slot - 1) None else None

-- a relay card with these groups has the channel
abbrev pub has_channel : List ℕ → ℕ → Bool
has_channel groups ch = nat_lt 0 ch && nat_le ch (length groups)

-- the channel's group, 0 for none and for an absent channel
abbrev pub group_at : List ℕ → ℕ → ℕ
group_at groups ch = if nat_lt 0 ch then slice_index_or groups (ch - 1) 0 else 0

abbrev pub contents_have : Option SlotContents → ℕ → Bool
contents_have None ch = false
contents_have (Some meter) ch = false
contents_have (Some (relays groups)) ch = has_channel groups ch

abbrev pub contents_group : Option SlotContents → ℕ → ℕ
contents_group None ch = 0
contents_group (Some meter) ch = 0
contents_group (Some (relays groups)) ch = group_at groups ch

-- the cage has the channel
abbrev pub is_present : Layout → Channel → Bool
is_present layout c = contents_have (slot_at layout c.0) c.1

-- the channel's group, over all slots
abbrev pub group_of : Layout → Channel → ℕ
group_of layout c = contents_group (slot_at layout c.0) c.1

-- the slot holds a meter
abbrev pub contents_are_meter : Option SlotContents → Bool
contents_are_meter None = false
contents_are_meter (Some meter) = true
contents_are_meter (Some (relays groups)) = false

abbrev pub has_meter : Layout → ℕ → Bool
has_meter layout slot = contents_are_meter (slot_at layout slot)

-- two different channels of one nonzero group, in any slots; an absent channel has group 0
pub record IsClash (layout : Layout) (a b : Channel) : Type 0 where
  pub other : a ≢ b
  pub grouped : group_of layout a ≢ 0
  pub same : group_of layout a ≡ group_of layout b

-- Of the closed channels, seen as a test, each is present, and no two clash.
pub record IsExclusive (layout : Layout) (closed : Channel → Bool) : Type 0 where
  pub present : (c : Channel) → closed c ≡ true → is_present layout c ≡ true
  pub apart : (a b : Channel) → closed a ≡ true → closed b ≡ true → IsClash layout a b → ⊥
