-- What a call on a list of channels does to the cage.
use Rattle.std.specs.Prelude.{◌≡◌, ◌≢◌, ℕ, ◌==◌, Bool, true, false, not, ◌||◌, List, [], ◌∷◌, map, Option, None, Some}
use Rattle.std.specs.Prelude.{if◌then◌else◌, ◌⊎◌}
use Rattle.sw_base.specs.Layout.{Channel, slot_at, has_meter}
use Rattle.sw_card.specs.Account.{Account, none_closed}
use Rattle.sw_verify.specs.Channels.{is_among}
use Rattle.sw_cage.specs.Accounts.{Accounts, layout_of, is_closed, all_open}

-- The channels of the list are closed, or open, and all else is as it was.
pub record Sets (old : Accounts) (chans : List Channel) (on : Bool) (new : Accounts) : Type 0 where
  pub rest : all_open new ≡ all_open old
  pub closed : (c : Channel) → is_closed new c ≡ (if is_among chans c then on else is_closed old c)

-- whether a card that stayed in its slot counts other failures than before
abbrev pub option_failed : Option Account → Option Account → Bool
option_failed (Some a) (Some b) = not (a.failures == b.failures)
option_failed None b = false
option_failed (Some a) None = false

-- whether a card's count of failures changed
abbrev pub any_failed : Accounts → Accounts → Bool
any_failed (a ∷ old) (b ∷ new) = option_failed a b || any_failed old new
any_failed [] new = false
any_failed (a ∷ old) [] = false

-- one card's count of failures changed, and that of no other card
pub record OneFailed (old new : Accounts) : Type 0 where
  pub slot : ℕ
  pub counted : option_failed (slot_at old slot) (slot_at new slot) ≡ true
  pub others : (other : ℕ) → other ≢ slot → option_failed (slot_at old other) (slot_at new other) ≡ false

-- that of a relay card
pub record RelayFailed (old new : Accounts) : Type 0 where
  pub one : OneFailed old new
  pub relays : has_meter (layout_of old) one.slot ≡ false

-- a card but for its channels' states and its count of failures
abbrev pub identity : Option Account → Option Account
identity None = None
identity (Some a) = Some (record a { failures = 0; closed = none_closed a.closed })

-- A card call failed: the cards are the same, and nothing is closed but what was and channels of the list.
pub record IsDisturbed (old : Accounts) (chans : List Channel) (new : Accounts) : Type 0 where
  pub cards : map identity new ≡ map identity old
  pub failed : OneFailed old new
  pub within : (c : Channel) → is_closed new c ≡ true → (is_closed old c ≡ true) ⊎ (is_among chans c ≡ true)
