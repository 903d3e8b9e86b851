use Rattle.std.proofs.Common.{refl, arith, ap}
use Rattle.sw_cage.specs.Accounts.{accounts_of, is_closed}
use Rattle.sw_cage.proofs.OneSlotLemmas.{slot_mask}
use Rattle.sw_cage.proofs.ClosedListLemmas.{walk_first, walk_number, walk_next, walk_end, walk_full}
use Rattle.sw_cage.proofs.slots.Slots.push_closed.Goals as goal

pub loop-init : goal.loop-init
loop-init g c = walk_first (is_closed (accounts_of c.args.self.now)) c.args.slot c.closed-left.result c.args.chans.now.items c.args.chans.now.items
    (slot_mask c.self.inside.slots.items (accounts_of c.args.self.now) c.args.slot c.closed-left.result c.index.result.now (ap accounts_of c.self.view_is)
    c.self.invariant.safe.size
    c.requires.0 c.requires.1 c.index.ensures c.closed-left.ensures) c.closed-left.ensures.within refl

pub new-requires-clause-ch_in : goal.new-requires-clause-ch_in
new-requires-clause-ch_in g c = walk_number (is_closed (accounts_of c.args.self.now)) c.args.slot c.loop.left c.loop.counter c.args.chans.now.items
    c.loop.chans.items
    c.in-Some.ch c.loop.invariant c.in-Some.ensures.here

pub loop-preserved : goal.loop-preserved
loop-preserved g c = walk_next (is_closed (accounts_of c.args.self.now)) c.args.slot c.loop.left c.remove.new.self c.loop.counter c.args.chans.now.items
    c.loop.chans.items
    c.push.new.self.items c.in-Some.ch c.new.result c.loop.invariant c.in-Some.ensures.here c.in-Some.ensures.lowest c.remove.ensures.here
    c.remove.ensures.others c.new.ensures c.in_ok-push.ensures.items

pub returns-in_default : goal.returns-in_default
returns-in_default g c = walk_end (is_closed (accounts_of c.args.self.now)) c.args.slot c.loop.left c.loop.counter c.args.chans.now.items c.loop.chans.items
    c.loop.invariant c.in_default.ensures.none

pub returns : goal.returns
returns g c = walk_full (is_closed (accounts_of c.args.self.now)) c.args.slot c.loop.left c.loop.counter c.args.chans.now.items c.loop.chans.items
    c.loop.invariant
    (omega arith)
