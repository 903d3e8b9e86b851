use Rattle.std.proofs.Common.{◌≡◌, drop}
use Rattle.toml.specs.View.{items_view}
use Rattle.sw_rack.specs.Fields.{each, as_text}
use Rattle.sw_rack.specs.Seen.{texts_seen}
use Rattle.sw_rack.proofs.Each.{with_front}
use Rattle.sw_rack.proofs.fields.each_text.Given as goal

abbrev pub invariant-loop-item : goal.invariant-loop-item
invariant-loop-item l =
    with_front (texts_seen l.texts.items) (each (as_text l.key) (items_view (drop l.item-index l.items)))
    ≡ each (as_text l.key) (items_view l.items)
