-- A rack's cards as the mainframe takes them: each by its own account, with every relay open and nothing measured yet.
use Rattle.std.specs.Prelude.{ℕ, ◌==◌, false, replicate, length, map, List, [], ◌∷◌, Option, Some, None}
use Rattle.std.specs.Prelude.{if◌then◌else◌}
use Rattle.std.specs.List.{range_with_len}
use Rattle.sw_base.specs.Layout.{Layout}
use Rattle.sw_base.specs.Limits.{most_slots}
use Rattle.sw_card.specs.Account.{Account, MeterAccount, relay_account, of_meter}
use Rattle.sw_cage.specs.Accounts.{Accounts, layout_of}
use Rattle.sw_rack.specs.declared.rack.RackCard.{RackCard}
use Rattle.sw_rack.specs.declared.kind.CardKind.{CardKind}
use Rattle.sw_rack.specs.declared.kind.CardKind.TheVariants as kinds
use Rattle.sw_serve.specs.SlotCards.{PlacedCard, placed}

abbrev pub account_by : ℕ → CardKind → Account
account_by serial (kinds.Relays groups behind) =
    relay_account serial 0 groups.numbers.items (replicate (length groups.numbers.items) false)
account_by serial (kinds.Meter behind) = of_meter (record { serial = serial; failures = 0; last = None })

abbrev pub account_of : RackCard → Account
account_of c = account_by c.serial c.kind

-- what is offered, in the file's order of slots
abbrev pub rack_cards : List RackCard → List PlacedCard
rack_cards [] = []
rack_cards (c ∷ more) = placed c.slot (account_of c) ∷ rack_cards more

-- the accounts that a card over a driver, and a meter over a source, give of themselves
abbrev pub banks_seen : {D : Type 0} → D × Account → Account
banks_seen b = relay_account b.1.serial b.1.failures b.1.groups b.1.closed

abbrev pub volt_seen : {S : Type 0} → S × MeterAccount → Account
volt_seen v = of_meter (record { serial = v.1.serial; failures = v.1.failures; last = v.1.last })

-- ---- which channels and meters they have

-- the card that is offered to this slot
abbrev pub offered_to : ℕ → List PlacedCard → Option Account
offered_to slot [] = None
offered_to slot (o ∷ more) = if o.slot == slot then Some o.card else offered_to slot more

-- the slots with these cards
abbrev pub slots_with : List PlacedCard → Accounts
slots_with cards = map (λ slot. offered_to slot cards) (range_with_len 1 most_slots)

-- which channels and meters a mainframe with a rack's cards has
abbrev pub rack_layout : List RackCard → Layout
rack_layout cards = layout_of (slots_with (rack_cards cards))
