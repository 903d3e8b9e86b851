-- What the queries of a slot tell is the layout's.
use Rattle.std.proofs.Common.{◌≡◌, ℕ, Bool, true, false, not, List, ◌++◌, length, decimal, Option, None, Some, refl, sym, ◌∙◌, ap, if◌then◌else◌}
use Rattle.std.specs.Prelude.{codes}
use Rattle.sw_base.specs.Layout.{SlotContents, relays, meter, slot_at}
use Rattle.sw_card.specs.Account.{Account, is_meter}
use Rattle.sw_cage.specs.Accounts.{slot_contents, layout_of}
use Rattle.sw_cage.specs.Cage.{or_meter, cage_layout}
use Rattle.sw_cage.specs.declared.job.Ticket.{Ticket}
use Rattle.sw_cage.proofs.SlotChangeLemmas.{slot_layout}
use Rattle.sw_cage.proofs.LayoutLemmas.{slot_with}
use Rattle.sw_cage.proofs.AdvanceLemmas.{lengths}
use Rattle.sw_core.specs.Answers.{four_fields, revision}
use Rattle.sw_core.specs.Good.{IsGoodPanel}
use Rattle.sw_core.specs.Panel.{Panel}
use Rattle.sw_core.specs.SlotTexts.{card_text, is_relay_card, groups_of}
use Rattle.sw_core.specs.SlotsTold.{contents_word, SlotsAreTold}

word_if : (b : Bool) (groups : List ℕ) → (if b then codes "METER" else codes "RELAY" ++ decimal (length groups))
    ≡ contents_word (Some (if b then meter else relays groups))
word_if true groups = refl
word_if false groups = refl

abbrev HasWord : Option Account → Option Ticket → Type 0
HasWord card out =
    (serial version : List ℕ) × (card_text card out ≡ four_fields (contents_word (or_meter (slot_contents card) out)) serial version)

has_word : (card : Option Account) (out : Option Ticket) → HasWord card out
has_word None None = (codes "0", codes "0", refl)
has_word None (Some ticket) = (codes "0", revision, refl)
has_word (Some card) out = (
  decimal card.serial,
  revision,
  ap (λ (word : List ℕ). four_fields word (decimal card.serial) revision) (word_if (is_meter card) card.groups),
)

groups_if : (b : Bool) (groups : List ℕ) → not b ≡ true
    → (let contents : SlotContents = if b then meter else relays groups in contents) ≡ relays groups
groups_if true groups h = absurd (cc h)
groups_if false groups h = refl

has_groups : (card : Option Account) (out : Option Ticket) → is_relay_card card ≡ true → or_meter (slot_contents card) out ≡ Some (relays (groups_of card))
has_groups None out h = absurd (cc h)
has_groups (Some card) out h = ap (λ (contents : SlotContents). Some contents) (groups_if (is_meter card) card.groups h)

in_layout : (p : Panel) (slot : ℕ) → IsGoodPanel p
    → slot_at (cage_layout p.cage) slot ≡ or_meter (slot_contents (slot_at p.cage.cards slot)) (slot_at p.cage.out slot)
in_layout p slot k =
    slot_with (layout_of p.cage.cards) p.cage.out slot (lengths p.cage k.good.held)
    ∙ ap (λ (contents : Option SlotContents). or_meter contents (slot_at p.cage.out slot)) (slot_layout p.cage.cards slot)

pub slots_told : SlotsAreTold
slots_told = record {
  kind = λ p slot k.
      let word = has_word (slot_at p.cage.cards slot) (slot_at p.cage.out slot) in (
        word.0,
        word.1,
        word.2 ∙ ap (λ (contents : Option SlotContents). four_fields (contents_word contents) word.0 word.1) (sym (in_layout p slot k)),
      );
  groups = λ p slot k h. in_layout p slot k ∙ has_groups (slot_at p.cage.cards slot) (slot_at p.cage.out slot) h;
}
