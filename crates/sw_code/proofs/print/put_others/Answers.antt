use Rattle.sw_code.proofs.Listed.{channel_more_printed, range_more, others_done, all_in_range}
use Rattle.sw_code.proofs.print.put_others.Goals as goal

pub loop-chan-preserved : goal.loop-chan-preserved
loop-chan-preserved c = record {
  printed = channel_more_printed _ _ _ _ _ _ _ c.loop-chan-test.true c.chan-item.is c.in_ok-push.ensures.items
      (c.in_ok-put_channel.ensures.printed) c.loop-chan.invariant.printed;
  range = range_more _ _ _ c.loop-chan-test.true c.chan-item.is c.loop-chan.invariant.range c.in_ok-put_channel.ensures.range;
}

pub returns-clause-printed : goal.returns-clause-printed
returns-clause-printed c = others_done _ _ c.args.chans.now c.loop-chan.chan-index c.loop-chan-test.false c.loop-chan.invariant.printed

pub returns-clause-range : goal.returns-clause-range
returns-clause-range c = all_in_range c.args.chans.now c.loop-chan.chan-index c.loop-chan-test.false c.loop-chan.invariant.range
