use Rattle.std.proofs.Common.{◌≡◌, ◌≤◌, map}
use Rattle.std.specs.List.{AllByRecursion}
use Rattle.toml.specs.View.{table_view}
use Rattle.sw_rack.specs.Ascending.{AreAscending}
use Rattle.sw_rack.specs.Racks.{cards_from}
use Rattle.sw_rack.specs.Seen.{card_seen}
use Rattle.sw_rack.proofs.BySlot.{behind, with_cards}
use Rattle.sw_rack.proofs.slots.read_cards.Given as goal

abbrev pub invariant-loop-before : goal.invariant-loop-before
invariant-loop-before l = record {
  so_far : with_cards (map card_seen l.cards.items) (behind (table_view l.slots) l.before) ≡ cards_from 16 1 (table_view l.slots);
  below : AllByRecursion (λ s. s ≤ l.before) (map (λ card. card.slot) l.cards.items);
  ascending : AreAscending (map (λ card. card.slot) l.cards.items);
}
