-- The answers to the queries of a slot: its card, the groups of the card's channels, and whether the card is sure of
-- its relays (own; SYSTem:CTYPe? as other switch mainframes have it).
use Rattle.std.specs.Prelude.{ℕ, Bool, true, false, not, ◌||◌, List, [], ◌++◌, length, map, decimal, codes, Option, Some, None}
use Rattle.std.specs.Prelude.{if◌then◌else◌}
use Rattle.std.specs.List.{join_with_byte}
use Rattle.sw_base.specs.Layout.{slot_at}
use Rattle.sw_card.specs.Account.{Account, is_meter}
use Rattle.sw_cage.specs.declared.job.Ticket.{Ticket}
use Rattle.sw_core.specs.Answers.{four_fields, revision}
use Rattle.sw_core.specs.Panel.{Panel}

-- ---- SYSTem:CTYPe?

-- METER, or RELAY and how many channels the card has
abbrev pub kind_word : Account → List ℕ
kind_word card = if is_meter card then codes "METER" else codes "RELAY" ++ decimal (length card.groups)

-- a card's kind and serial number; an empty slot has zeros. The serial number of a meter that is out to measure is not
-- available, written as 0 (IEEE 488.2, 10.14).
abbrev pub card_text : Option Account → Option Ticket → List ℕ
card_text (Some card) out = four_fields (kind_word card) (decimal card.serial) revision
card_text None (Some ticket) = four_fields (codes "METER") (codes "0") revision
card_text None None = four_fields (codes "0") (codes "0") (codes "0")

abbrev pub kind_text : ℕ → Panel → List ℕ
kind_text slot p = card_text (slot_at p.cage.cards slot) (slot_at p.cage.out slot)

-- ---- SYSTem:CTYPe:GROups?

abbrev pub is_relay_card : Option Account → Bool
is_relay_card None = false
is_relay_card (Some card) = not (is_meter card)

-- whether the slot has a relay card
abbrev pub has_relays : ℕ → Panel → Bool
has_relays slot p = is_relay_card (slot_at p.cage.cards slot)

abbrev pub groups_of : Option Account → List ℕ
groups_of None = []
groups_of (Some card) = card.groups

-- the exclusion group of each of its channels, 0 for none, joined by commas
abbrev pub groups_text : ℕ → Panel → List ℕ
groups_text slot p = join_with_byte 44 (map decimal (groups_of (slot_at p.cage.cards slot)))

-- ---- SYSTem:CTYPe:STATe?

-- what a card says of its relays: that they are as its account says, or that it is not sure
abbrev pub surety_word : Bool → List ℕ
surety_word true = codes "SURE"
surety_word false = codes "UNS"

-- the answer by whether the card is sure: an empty slot is empty, and a meter, in its slot or out, has no relays
abbrev pub card_state : Option Account → Option Ticket → Bool → List ℕ
card_state None None sure = codes "EMPT"
card_state None (Some ticket) sure = surety_word true
card_state (Some card) out sure = surety_word (is_meter card || sure)

abbrev pub state_text : ℕ → Panel → Bool → List ℕ
state_text slot p sure = card_state (slot_at p.cage.cards slot) (slot_at p.cage.out slot) sure
