use Rattle.sw_channel.specs.Printing.{printed_position, IsPrintable}
use Rattle.sw_channel.proofs.Printed.{one_more, all_more, others_done, all_over}
use Rattle.sw_channel.proofs.print.put_other_positions.Goals as goal

pub loop-position-preserved : goal.loop-position-preserved
loop-position-preserved c = record {
  printed = one_more 44 printed_position _ _ _ _ _ _ _ c.loop-position-test.true c.position-item.is c.in_ok-push.ensures.items
      (rw c.as_slice.ensures.chans at c.in_ok-put_all.ensures.printed) c.loop-position.invariant.printed;
  in_range = all_more IsPrintable _ _ _ c.loop-position-test.true c.position-item.is c.loop-position.invariant.in_range
      (c.as_slice.ensures.range, rw c.as_slice.ensures.chans at c.in_ok-put_all.ensures.in_range);
}

pub returns-clause-printed : goal.returns-clause-printed
returns-clause-printed c =
    others_done 44 printed_position _ _ c.args.positions.now c.loop-position.position-index c.loop-position-test.false c.loop-position.invariant.printed

pub returns-clause-in_range : goal.returns-clause-in_range
returns-clause-in_range c =
    all_over IsPrintable c.args.positions.now c.loop-position.position-index c.loop-position-test.false c.loop-position.invariant.in_range
