-- The cage as plain data.
use Rattle.std.specs.Prelude.{ℕ, List, [], ◌∷◌, Option, None, Some, replicate}
use Rattle.sw_base.specs.Limits.{most_slots}
use Rattle.sw_base.specs.Layout.{SlotContents, meter, Layout}
use Rattle.sw_base.specs.declared.reading.Reading.{Reading}
use Rattle.sw_verify.specs.Course.{CourseSeen}
use Rattle.sw_cage.specs.Accounts.{Accounts, layout_of, all_open}
use Rattle.sw_cage.specs.declared.job.Ticket.{Ticket}

-- a scan's course, and which of its items it awaits
pub record ScanSeen : Type 0 where
  pub course : CourseSeen
  pub index : ℕ

-- a cage as data: the cards in their slots, by slot the ticket under which its meter is out, the number of scans begun,
-- the scan that runs, and the readings of the last one
pub record CageSeen : Type 0 where
  pub cards : Accounts
  pub out : List (Option Ticket)
  pub number : ℕ
  pub scan : Option ScanSeen
  pub readings : List Reading

-- no card, nothing out, no scan begun
abbrev pub empty_cage : CageSeen
empty_cage = record {
  cards = replicate most_slots None;
  out = replicate most_slots None;
  number = 0;
  scan = None;
  readings = [];
}

abbrev pub cage_with_cards : CageSeen → Accounts → CageSeen
cage_with_cards p rack = record p { cards = rack }

-- no scan runs, and every relay is open
abbrev pub safe_state : CageSeen → CageSeen
safe_state p = record p { cards = all_open p.cards; scan = None }

-- what a slot holds, where a meter that is out counts as its slot's
abbrev pub or_meter : Option SlotContents → Option Ticket → Option SlotContents
or_meter (Some bay) t = Some bay
or_meter None None = None
or_meter None (Some t) = Some meter

abbrev pub layout_with : Layout → List (Option Ticket) → Layout
layout_with [] out = []
layout_with (bay ∷ bays) [] = or_meter bay None ∷ layout_with bays []
layout_with (bay ∷ bays) (t ∷ out) = or_meter bay t ∷ layout_with bays out

-- the cage's cards by slot, those that are out among them
abbrev pub cage_layout : CageSeen → Layout
cage_layout p = layout_with (layout_of p.cards) p.out

-- the ticket of what the scan awaits
abbrev pub ticket_of : ℕ → ScanSeen → Ticket
ticket_of number at = record { scan = number; index = at.index }
