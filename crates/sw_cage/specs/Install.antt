-- Which cards go into which slots, and which slots give a card.
use Rattle.std.specs.Prelude.{◌≡◌, ℕ, ◌-◌, ◌<◌, ◌≤◌, true, false, length, is_some, None, ◌⊎◌, slice_set, if◌then◌else◌}
use Rattle.sw_base.specs.Limits.{most_slots, most_channels}
use Rattle.sw_base.specs.Layout.{slot_at}
use Rattle.sw_card.specs.Account.{Account, is_meter, closed_at}
use Rattle.sw_cage.specs.Accounts.{Accounts}
use Rattle.sw_cage.specs.Cage.{CageSeen, safe_state}
use Rattle.sw_cage.specs.declared.refusal.InstallRefusal.{InstallRefusal}
use Rattle.sw_cage.specs.declared.refusal.InstallRefusal.TheVariants.{Busy, Occupied, BadLayout}
use Rattle.sw_cage.specs.declared.refusal.EjectRefusal.{EjectRefusal}
use Rattle.sw_cage.specs.declared.refusal.EjectRefusal.TheVariants.{Vacant, Out}

-- one channel at least, and no more than a card may have
pub record IsFit (card : Account) : Type 0 where
  pub some_channel : 1 ≤ length card.groups
  pub few_channels : length card.groups ≤ most_channels

-- the slot is one of the cage's and empty; the card has nothing closed and is fit, if it is no meter
pub record CanInstall (rack : Accounts) (slot : ℕ) (card : Account) : Type 0 where
  pub empty : slot_at rack slot ≡ None
  pub first : 1 ≤ slot
  pub last : slot ≤ most_slots
  pub fit : is_meter card ≡ false → IsFit card
  pub «open» : (ch : ℕ) → closed_at card.closed ch ≡ false

-- no channel, too many, or one closed
abbrev pub IsUnfit : Account → Type 0
IsUnfit card = (length card.groups ≡ 0)
    ⊎ ((most_channels < length card.groups) ⊎ ((ch : ℕ) × (closed_at card.closed ch ≡ true)))

abbrev pub IsBadLayout : ℕ → Account → Type 0
IsBadLayout slot card = (slot < 1) ⊎ ((most_slots < slot) ⊎ ((is_meter card ≡ false) × IsUnfit card))

-- Which refusal applies when; an occupied slot is first.
abbrev pub SlotsRefuseInstall : Accounts → ℕ → Account → InstallRefusal → Type 0
SlotsRefuseInstall rack slot card Busy = ⊥
SlotsRefuseInstall rack slot card Occupied = is_some (slot_at rack slot) ≡ true
SlotsRefuseInstall rack slot card BadLayout = (slot_at rack slot ≡ None) × IsBadLayout slot card

abbrev pub SlotsRefuseEject : Accounts → ℕ → EjectRefusal → Type 0
SlotsRefuseEject rack slot Vacant = slot_at rack slot ≡ None
SlotsRefuseEject rack slot Out = ⊥

-- Which refusal of a card applies when: a scan that runs is first, then a slot with a card, in it or out.
abbrev pub RefusesInstall : CageSeen → ℕ → Account → InstallRefusal → Type 0
RefusesInstall p slot card Busy = is_some p.scan ≡ true
RefusesInstall p slot card Occupied =
    (is_some p.scan ≡ false) × ((is_some (slot_at p.out slot) ≡ true) ⊎ (is_some (slot_at p.cards slot) ≡ true))
RefusesInstall p slot card BadLayout =
    (is_some p.scan ≡ false) × (slot_at p.out slot ≡ None) × (slot_at p.cards slot ≡ None) × IsBadLayout slot card

-- why no card comes out
abbrev pub RefusesEject : CageSeen → ℕ → EjectRefusal → Type 0
RefusesEject p slot Vacant = (slot_at p.out slot ≡ None) × (slot_at p.cards slot ≡ None)
RefusesEject p slot Out = is_some (slot_at p.out slot) ≡ true

-- the cage once no scan runs: one that ran fell
abbrev pub stopped : CageSeen → CageSeen
stopped p = if is_some p.scan then safe_state p else p

abbrev pub without_card : CageSeen → ℕ → CageSeen
without_card p slot = record p { cards = slice_set p.cards (slot - 1) None }
