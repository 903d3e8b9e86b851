-- The answers to the queries of a slot are the layout by which the check judges scans.
use Rattle.std.specs.Prelude.{◌≡◌, ℕ, true, List, ◌++◌, length, decimal, codes, Option, Some, None}
use Rattle.sw_base.specs.Layout.{SlotContents, relays, meter, slot_at}
use Rattle.sw_cage.specs.Cage.{cage_layout}
use Rattle.sw_core.specs.Answers.{four_fields}
use Rattle.sw_core.specs.Good.{IsGoodPanel}
use Rattle.sw_core.specs.Panel.{Panel}
use Rattle.sw_core.specs.SlotTexts.{kind_text, has_relays, groups_of}

-- the kind of what a layout has in a slot
abbrev pub contents_word : Option SlotContents → List ℕ
contents_word None = codes "0"
contents_word (Some meter) = codes "METER"
contents_word (Some (relays groups)) = codes "RELAY" ++ decimal (length groups)

-- On every good mainframe, with a meter out or in: the answered kind, with its channels, is that of the layout, and the
-- answered groups are the layout's.
pub record SlotsAreTold : Type 0 where
  pub kind : (p : Panel) (slot : ℕ) → IsGoodPanel p → (serial version : List ℕ)
      × (kind_text slot p ≡ four_fields (contents_word (slot_at (cage_layout p.cage) slot)) serial version)
  pub groups : (p : Panel) (slot : ℕ) → IsGoodPanel p → has_relays slot p ≡ true
      → slot_at (cage_layout p.cage) slot ≡ Some (relays (groups_of (slot_at p.cage.cards slot)))
