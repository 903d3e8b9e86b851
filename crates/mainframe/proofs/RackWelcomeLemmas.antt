-- Each card of a rack can be taken.
use Rattle.std.proofs.Common.{◌≡◌, ◌≢◌, ◌≤◌, ◌+◌, ℕ, false, List, [], ◌∷◌, map, length, arith}
use Rattle.std.specs.Prelude.{All}
use Rattle.std.specs.List.{AllByRecursion}
use Rattle.std.proofs.lemmas.List.Elements.{All-nil, All-cons}
use Rattle.sw_card.specs.Account.{is_meter, closed_at}
use Rattle.sw_cage.specs.Install.{IsFit}
use Rattle.sw_rack.specs.Ascending.{AreAscending}
use Rattle.sw_rack.specs.declared.rack.RackCard.{RackCard}
use Rattle.sw_rack.specs.declared.kind.CardKind.{CardKind}
use Rattle.sw_rack.specs.declared.kind.CardKind.TheVariants as kinds
use Rattle.sw_serve.specs.SlotCards.{PlacedCard, placed}
use Rattle.sw_serve.specs.Fitting.{IsSound, AreApart, AreWelcome}
use Rattle.mainframe.specs.RackCards.{account_by, account_of, rack_cards}
use Rattle.mainframe.proofs.WelcomeLemmas.{all_open}

fit_by : (serial : ℕ) (kind : CardKind) → is_meter (account_by serial kind) ≡ false → IsFit (account_by serial kind)
fit_by serial (kinds.Relays groups behind) relays = record { some_channel = groups.few.0; few_channels = groups.few.1 }
fit_by serial (kinds.Meter behind) relays = absurd (cc relays)

open_by : (serial : ℕ) (kind : CardKind) (ch : ℕ) → closed_at (account_by serial kind).closed ch ≡ false
open_by serial (kinds.Relays groups behind) ch = all_open (length groups.numbers.items) ch
open_by serial (kinds.Meter behind) ch = all_open 0 ch

sound_of : (c : RackCard) → IsSound (placed c.slot (account_of c))
sound_of c = record { first = c.in_cage.0; last = c.in_cage.1; fit = fit_by c.serial c.kind; «open» = open_by c.serial c.kind }

all_sound : (cards : List RackCard) → All IsSound (rack_cards cards)
all_sound [] = All-nil IsSound
all_sound (c ∷ cards) = All-cons IsSound (placed c.slot (account_of c)) (rack_cards cards) (sound_of c) (all_sound cards)

later : (slot other : ℕ) → slot + 1 ≤ other → other ≢ slot
later slot other behind = omega (arith, behind)

apart_from : (slot : ℕ) (cards : List RackCard) → AllByRecursion (λ other. slot + 1 ≤ other) (map (λ card. card.slot) cards)
    → All (λ o. o.slot ≢ slot) (rack_cards cards)
apart_from slot [] behind = All-nil (λ (o : PlacedCard). o.slot ≢ slot)
apart_from slot (c ∷ cards) behind =
    All-cons (λ (o : PlacedCard). o.slot ≢ slot) (placed c.slot (account_of c)) (rack_cards cards) (later slot c.slot behind.0)
    (apart_from slot cards behind.1)

all_apart : (cards : List RackCard) → AreAscending (map (λ card. card.slot) cards) → AreApart (rack_cards cards)
all_apart [] ascending = tt
all_apart (c ∷ cards) ascending = (apart_from c.slot cards ascending.0, all_apart cards ascending.1)

pub rack_welcome : (cards : List RackCard) → AreAscending (map (λ card. card.slot) cards) → AreWelcome (rack_cards cards)
rack_welcome cards ascending = record { apart = all_apart cards ascending; sound = all_sound cards }
