use Rattle.std.proofs.Common.{◌≡◌}
use Rattle.toml.specs.View.{members_view}
use Rattle.sw_rack.specs.Cards.{all_fitting}
use Rattle.sw_rack.proofs.card.check_keys.Given as goal

abbrev pub invariant-loop-name : goal.invariant-loop-name
invariant-loop-name l =
    (goal.iterator-loop-name).can_next l.name-iterator × (goal.iterator-loop-name).is_finite l.name-iterator
    × (all_fitting l.form (members_view l.name-iterator) ≡ all_fitting l.form (members_view l.table.entries))
