use Rattle.std.proofs.Common.{refl}
use Rattle.sw_core.proofs.ListingCheckLemmas.{one_less, none_left}
use Rattle.sw_core.proofs.listing_check.push_doubled.Goals as goal

pub loop-byte-init : goal.loop-byte-init
loop-byte-init c = refl

pub loop-byte-preserved : goal.loop-byte-preserved
loop-byte-preserved c =
    one_less c.args.text.now.items c.args.bytes.now c.loop-byte.text.items c.push_one.new.text.items c.args.bytes.now c.loop-byte.byte-index _
    c.loop-byte.invariant c.in_ok-push_one.ensures c.loop-byte-test.true

pub returns : goal.returns
returns c = none_left c.args.text.now.items c.args.bytes.now c.loop-byte.text.items c.loop-byte.byte-index c.loop-byte-test.false c.loop-byte.invariant
