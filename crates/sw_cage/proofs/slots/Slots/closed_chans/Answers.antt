use Rattle.std.proofs.Common.{sym, ◌∙◌}
use Rattle.sw_cage.specs.Accounts.{accounts_of, is_closed}
use Rattle.sw_cage.proofs.ClosedListLemmas.{rows_start, push_rows}
use Rattle.sw_cage.proofs.slots.Slots.closed_chans.Goals as goal

pub loop-before-init : goal.loop-before-init
loop-before-init g c = c.new-chans.ensures.items ∙ sym (rows_start (is_closed (accounts_of c.args.self.now)))

pub loop-before-preserved : goal.loop-before-preserved
loop-before-preserved g c = push_rows c.loop-before.chans.items c.push_closed.new.chans.items (is_closed (accounts_of c.args.self.now)) c.loop-before.before
    c.loop-before.invariant c.in_ok-push_closed.ensures
