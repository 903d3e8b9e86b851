-- The mask that the cage keeps of a slot's card.
use Rattle.std.specs.Prelude.{◌≡◌, ℕ, ◌≤◌, true, Option}
use Rattle.sw_base.specs.Limits.{most_channels}
use Rattle.sw_card.specs.Account.{Account}
use Rattle.sw_card.specs.Mask.{in_mask}
use Rattle.sw_cage.specs.Accounts.{option_closed}

-- of the channels that a card may have exactly the closed ones are in the mask, and no other is
pub record IsSlotMask (mask : ℕ) (o : Option Account) : Type 0 where
  pub closed : (ch : ℕ) → ch ≤ most_channels → in_mask mask ch ≡ option_closed o ch
  pub within : (ch : ℕ) → in_mask mask ch ≡ true → ch ≤ most_channels
