use Rattle.sw_cage.specs.Accounts.{accounts_of, is_closed, layout_of}
use Rattle.sw_cage.proofs.ClaimLemmas.{with_clash, with_more, with_apart}
use Rattle.sw_cage.proofs.slots.Slots.claim_listed.Goals as goal

pub returns-then-not-claim-clause-clash : goal.returns-then-not-claim-clause-clash
returns-then-not-claim-clause-clash g c u = with_clash (layout_of (accounts_of c.args.self.now)) (is_closed (accounts_of c.args.self.now)) c.args.chans.now
    c.loop-chan.chan-index
    c.chan-item.result c.chan-item.result c.loop-chan.claims c.group.result c.loop-chan-test.true c.chan-item.is c.loop-chan.invariant c.group.ensures
    (c.claim.ensures.grouped c.if-not-claim.true) (c.claim.ensures.taken c.if-not-claim.true)

pub loop-chan-preserved : goal.loop-chan-preserved
loop-chan-preserved g c = with_more (layout_of (accounts_of c.args.self.now)) (is_closed (accounts_of c.args.self.now)) c.args.chans.now c.loop-chan.chan-index
    c.chan-item.result
    c.chan-item.result c.loop-chan.claims c.claim.new.self c.group.result c.loop-chan-test.true c.chan-item.is c.loop-chan.invariant c.group.ensures
    (c.claim.ensures.free c.if-not-claim.false) (c.claim.ensures.claimed c.if-not-claim.false) (c.claim.ensures.room c.if-not-claim.false)
    (c.claim.ensures.groupless c.if-not-claim.false)

pub returns-clause-apart : goal.returns-clause-apart
returns-clause-apart g c u = with_apart (layout_of (accounts_of c.args.self.now)) (is_closed (accounts_of c.args.self.now)) c.args.chans.now
    c.loop-chan.chan-index c.loop-chan.claims
    c.loop-chan-test.false c.loop-chan.invariant
