-- Why a mainframe is not fitted with the cards of a list, and of which lists it takes each card.
use Rattle.std.specs.Prelude.{◌≡◌, ◌≢◌, ◌≤◌, ℕ, ◌&&◌, nat_le, false, List, [], ◌∷◌, All, codes, if◌then◌else◌}
use Rattle.sw_base.specs.Limits.{most_slots}
use Rattle.sw_card.specs.Account.{is_meter, closed_at}
use Rattle.sw_cage.specs.Install.{IsFit}
use Rattle.sw_cage.specs.declared.refusal.InstallRefusal.{InstallRefusal}
use Rattle.sw_cage.specs.declared.refusal.InstallRefusal.TheVariants.{Busy, Occupied, BadLayout}
use Rattle.sw_core.specs.declared.ask.Sid.{Sid}
use Rattle.sw_core.specs.Panel.{Panel}
use Rattle.sw_serve.specs.declared.unfit.FitError.{FitError}
use Rattle.sw_serve.specs.declared.unfit.FitError.TheVariants.{Refused, Memory}
use Rattle.sw_serve.specs.SlotCards.{PlacedCard, Joins, RefusesCard}

-- the first card of the list that the mainframe refuses is named with its cause, or there was no memory
abbrev pub IsUnfitted : Panel → List PlacedCard → FitError → Type 0
IsUnfitted p cards (Refused slot why) = RefusesCard p cards slot why
IsUnfitted p cards Memory = Unit {0}

-- a session joins the opening mainframe, and a card is refused then
pub record RefusesForOne (cards : List PlacedCard) (slot : ℕ) (why : InstallRefusal) : Type 0 where
  pub sid : Sid
  pub begun : Panel
  pub joined : Joins sid begun
  pub refuses : RefusesCard begun cards slot why

abbrev pub IsUnfittedForOne : List PlacedCard → FitError → Type 0
IsUnfittedForOne cards (Refused slot why) = RefusesForOne cards slot why
IsUnfittedForOne cards Memory = Unit {0}

-- the slot is one of the cage's; the card has nothing closed and is fit, if it is no meter
pub record IsSound (o : PlacedCard) : Type 0 where
  pub first : 1 ≤ o.slot
  pub last : o.slot ≤ most_slots
  pub fit : is_meter o.card ≡ false → IsFit o.card
  pub «open» : (ch : ℕ) → closed_at o.card.closed ch ≡ false

-- no two cards are for one slot
abbrev pub AreApart : List PlacedCard → Type 0
AreApart [] = Unit {0}
AreApart (o ∷ more) = All (λ other. other.slot ≢ o.slot) more × AreApart more

-- each card of the list can be taken
pub record AreWelcome (cards : List PlacedCard) : Type 0 where
  pub apart : AreApart cards
  pub sound : All IsSound cards

-- the cause in words
abbrev pub cause_of : ℕ → InstallRefusal → List ℕ
cause_of slot Busy = codes "a scan runs"
cause_of slot Occupied = codes "a card is there already"
cause_of slot BadLayout =
    if nat_le 1 slot && nat_le slot most_slots then codes "the card has no channel, more than 99, or a closed one"
    else codes "no such slot"
