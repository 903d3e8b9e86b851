-- The group that the cage keeps for all channels of a slot's card.
use Rattle.std.specs.Prelude.{◌≡◌, ℕ, true, Option, None, Some}
use Rattle.sw_base.specs.Layout.{contents_have, contents_group}
use Rattle.sw_card.specs.Account.{Account}
use Rattle.sw_cage.specs.Accounts.{slot_contents}

-- where one is kept, each channel of the card is in it
abbrev pub IsShared : Option ℕ → Option Account → Type 0
IsShared None o = Unit {0}
IsShared (Some group) o = (ch : ℕ) → contents_have (slot_contents o) ch ≡ true
    → contents_group (slot_contents o) ch ≡ group
