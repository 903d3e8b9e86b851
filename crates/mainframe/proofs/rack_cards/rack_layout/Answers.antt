use Rattle.mainframe.proofs.RackLayoutLemmas.{slot-more}
use Rattle.mainframe.proofs.rack_cards.rack_layout.Goals as goal

-- one slot more
pub loop-before-preserved : goal.loop-before-preserved
loop-before-preserved c = slot-more _ _ _ _ _ c.loop-before.invariant c.in_ok-slot_of.ensures c.in_ok-push.ensures.items
