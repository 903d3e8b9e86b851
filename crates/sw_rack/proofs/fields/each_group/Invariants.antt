use Rattle.std.proofs.Common.{◌≡◌, drop}
use Rattle.toml.specs.View.{items_view}
use Rattle.sw_rack.specs.Fields.{each, as_number}
use Rattle.sw_rack.proofs.Each.{with_front}
use Rattle.sw_rack.proofs.fields.each_group.Given as goal

abbrev pub invariant-loop-item : goal.invariant-loop-item
invariant-loop-item l =
    with_front l.groups.items (each (as_number l.key 0 255) (items_view (drop l.item-index l.items)))
    ≡ each (as_number l.key 0 255) (items_view l.items)
