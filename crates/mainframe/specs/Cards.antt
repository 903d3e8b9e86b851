-- The program's cards by their own accounts.
use Rattle.std.specs.Prelude.{None, false, replicate, List, [], ◌∷◌}
use Rattle.sw_card.specs.Account.{Account, MeterAccount, relay_account, of_meter}
use Rattle.sw_serve.specs.SlotCards.{PlacedCard, placed}

-- four cards: the first is offered to slot 1, and so on
abbrev pub in_slots : Account → Account → Account → Account → List PlacedCard
in_slots first second third fourth =
    placed 1 first ∷ placed 2 second ∷ placed 3 third ∷ placed 4 fourth ∷ []

-- a multiplexer of 20 channels in group 1, all open
unfoldable pub first_card : Account
first_card = relay_account 1 0 (replicate 20 1) (replicate 20 false)

-- a matrix of 16 channels in no group, all open
unfoldable pub second_card : Account
second_card = relay_account 2 0 (replicate 16 0) (replicate 16 false)

-- a multiplexer of 10 channels in group 1, all open
unfoldable pub third_card : Account
third_card = relay_account 3 0 (replicate 10 1) (replicate 10 false)

-- a meter that has measured nothing yet
unfoldable pub meter_card : MeterAccount
meter_card = record { serial = 4; failures = 0; last = None }

abbrev pub program_cards : List PlacedCard
program_cards = in_slots first_card second_card third_card (of_meter meter_card)
