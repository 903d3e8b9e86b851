use Rattle.std.proofs.Common.{refl}
use Rattle.sw_code.proofs.Listed.{one_more, channels_more, lines_done, all_channels}
use Rattle.sw_code.proofs.print.put_steps.Goals as goal

pub loop-step-preserved : goal.loop-step-preserved
loop-step-preserved c = record {
  printed = one_more _ _ _ _ _ _ _ _ c.loop-step-test.true c.step-item.is c.in_ok-put_step.ensures.printed refl c.in_ok-push.ensures.items
      c.loop-step.invariant.printed;
  channels = channels_more _ _ _ c.loop-step-test.true c.step-item.is c.loop-step.invariant.channels c.in_ok-put_step.ensures.channel;
}

pub returns-clause-printed : goal.returns-clause-printed
returns-clause-printed c = lines_done _ _ c.args.steps.now c.loop-step.step-index c.loop-step-test.false c.loop-step.invariant.printed

pub returns-clause-channels : goal.returns-clause-channels
returns-clause-channels c = all_channels c.args.steps.now c.loop-step.step-index c.loop-step-test.false c.loop-step.invariant.channels
