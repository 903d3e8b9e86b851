use Rattle.std.proofs.Common.{ap}
use Rattle.sw_cage.specs.Accounts.{accounts_of, layout_of, is_closed}
use Rattle.sw_cage.proofs.ClaimLemmas.{one_apart, one_clash}
use Rattle.sw_cage.proofs.ClaimedLemmas.{claimed_seen}
use Rattle.sw_cage.proofs.slots.Slots.are_apart.Goals as goal

pub returns-in-len1-clause-apart : goal.returns-in-len1-clause-apart
returns-in-len1-clause-apart g c u = one_apart (layout_of (accounts_of c.args.self.now)) (is_closed (accounts_of c.args.self.now)) c.args.chans.now
    c.chan-item.result c.self.inside.claims c.group.result c.in-len1.len_at_least c.in-len1.len_below c.chan-item.is
    (claimed_seen c.self.inside.slots.items (accounts_of c.args.self.now) c.self.inside.claims (ap accounts_of c.self.view_is) c.self.invariant).claims
    c.group.ensures c.is_free.ensures.room (c.is_free.ensures.free u)

pub returns-in-len1-clause-clash : goal.returns-in-len1-clause-clash
returns-in-len1-clause-clash g c u = one_clash (layout_of (accounts_of c.args.self.now)) (is_closed (accounts_of c.args.self.now)) c.args.chans.now
    c.chan-item.result c.self.inside.claims c.group.result c.in-len1.len_at_least c.in-len1.len_below c.chan-item.is
    (claimed_seen c.self.inside.slots.items (accounts_of c.args.self.now) c.self.inside.claims (ap accounts_of c.self.view_is) c.self.invariant).claims
    c.group.ensures (c.is_free.ensures.grouped u) (c.is_free.ensures.taken u)
