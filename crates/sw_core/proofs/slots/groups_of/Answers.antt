use Rattle.std.proofs.Common.{rules, ◌∙◌}
use Rattle.sw_core.proofs.RowsLemmas.{group_more}
use Rattle.sw_core.proofs.slots.groups_of.Goals as goal

pub loop-before-preserved : goal.loop-before-preserved
loop-before-preserved g c =
    group_more _ _ _ _ _ (search rules) (search rules) (c.from.ensures ∙ c.group.ensures) (c.in_ok-separate.ensures _ c.loop-before.invariant) c.in_ok-add_number.ensures
