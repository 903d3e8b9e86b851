-- What the slots of the cage hold, by the cards' own accounts.
use Rattle.std.specs.Prelude.{◌≡◌, ℕ, ◌-◌, ◌≤◌, Bool, false, List, length, map, Option, None, Some, slice_set}
use Rattle.std.specs.Prelude.{if◌then◌else◌}
use Rattle.sw_base.specs.Limits.{most_slots, most_channels}
use Rattle.sw_base.specs.Layout.{Channel, SlotContents, relays, meter, Layout, slot_at, IsExclusive}
use Rattle.sw_card.specs.Account.{Account, is_meter, closed_at, with_set, at_rest, IsFault}

-- what the slots hold, from slot 1 on
abbrev pub Accounts : Type 0
Accounts = List (Option Account)

-- a slot's card by its account, without the card itself
abbrev pub option_account : {C : Type 0} → Option (C × Account) → Option Account
option_account None = None
option_account (Some card) = Some card.1

-- the cards' accounts
abbrev pub accounts_of : {C : Type 0} → List (Option (C × Account)) → Accounts
accounts_of slots = map option_account slots

abbrev pub card_contents : Account → SlotContents
card_contents a = if is_meter a then meter else relays a.groups

abbrev pub slot_contents : Option Account → Option SlotContents
slot_contents None = None
slot_contents (Some a) = Some (card_contents a)

-- which channels and meters the cage has, and the channels' groups
abbrev pub layout_of : Accounts → Layout
layout_of rack = map slot_contents rack

abbrev pub option_closed : Option Account → ℕ → Bool
option_closed None ch = false
option_closed (Some a) ch = closed_at a.closed ch

abbrev pub is_closed : Accounts → Channel → Bool
is_closed rack c = option_closed (slot_at rack c.0) c.1

-- a card has a state for each of its channels; and a relay card no more than a card may have
pub record IsWellFormed (a : Account) : Type 0 where
  pub states : length a.closed ≡ length a.groups
  pub few : is_meter a ≡ false → length a.groups ≤ most_channels

abbrev pub OptionWellFormed : Option Account → Type 0
OptionWellFormed None = Unit {0}
OptionWellFormed (Some a) = IsWellFormed a

-- of the slots only present channels are closed, and no two of them clash
pub record AreSafe (rack : Accounts) : Type 0 where
  pub size : length rack ≡ most_slots
  pub rows : (slot : ℕ) → OptionWellFormed (slot_at rack slot)
  pub exclusive : IsExclusive (layout_of rack) (is_closed rack)

abbrev pub option_set : Option Account → ℕ → Bool → Option Account
option_set None ch on = None
option_set (Some a) ch on = Some (with_set a ch on)

-- the accounts after one channel is set
abbrev pub with_chan : Accounts → Channel → Bool → Accounts
with_chan rack c on = slice_set rack (c.0 - 1) (option_set (slot_at rack c.0) c.1 on)

abbrev pub option_rest : Option Account → Option Account
option_rest None = None
option_rest (Some a) = Some (at_rest a)

-- every relay open
abbrev pub all_open : Accounts → Accounts
all_open rack = map option_rest rack

-- the slot after a call that failed, which could close no more than in most
abbrev pub IsSlotFault : Option Account → Option Account → Option Account → Type 0
IsSlotFault (Some a) (Some most) (Some b) = IsFault a most.closed b
IsSlotFault None most new = ⊥
IsSlotFault (Some a) None new = ⊥
IsSlotFault (Some a) (Some most) None = ⊥

-- the cage after a call on one channel failed: that slot alone changed
pub record IsChannelFault (old : Accounts) (c : Channel) (most new : Accounts) : Type 0 where
  pub others : new ≡ slice_set old (c.0 - 1) (slot_at new c.0)
  pub fault : IsSlotFault (slot_at old c.0) (slot_at most c.0) (slot_at new c.0)
