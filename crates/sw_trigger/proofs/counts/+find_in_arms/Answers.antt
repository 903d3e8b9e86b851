use Rattle.std.proofs.Common.{arith}
use Rattle.sw_trigger.proofs.Awaiting.{fits_turn}
use Rattle.sw_trigger.proofs.counts.+find_in_arms.Goals as goal

pub find-requires-clause-fits : goal.find-requires-clause-fits
find-requires-clause-fits t c = fits_turn c.args.settings.now.settle_us _ c.arms_len.result (omega (arith, c.requires.few, c.in-len1-up.len_at_least)) c.arms_len.ensures.most
