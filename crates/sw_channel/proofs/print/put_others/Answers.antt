use Rattle.sw_channel.specs.Printing.{printed_channel, InRange}
use Rattle.sw_channel.proofs.Printed.{one_more, all_more, others_done, all_over}
use Rattle.sw_channel.proofs.print.put_others.Goals as goal

pub loop-chan-preserved : goal.loop-chan-preserved
loop-chan-preserved c = record {
  printed = one_more c.args.mark printed_channel _ _ _ _ _ _ _ c.loop-chan-test.true c.chan-item.is c.in_ok-push.ensures.items
      (c.in_ok-put_channel.ensures.printed) c.loop-chan.invariant.printed;
  in_range = all_more InRange _ _ _ c.loop-chan-test.true c.chan-item.is c.loop-chan.invariant.in_range c.in_ok-put_channel.ensures.in_range;
}

pub returns-clause-printed : goal.returns-clause-printed
returns-clause-printed c =
    others_done c.args.mark printed_channel _ _ c.args.chans.now c.loop-chan.chan-index c.loop-chan-test.false c.loop-chan.invariant.printed

pub returns-clause-in_range : goal.returns-clause-in_range
returns-clause-in_range c = all_over InRange c.args.chans.now c.loop-chan.chan-index c.loop-chan-test.false c.loop-chan.invariant.in_range
