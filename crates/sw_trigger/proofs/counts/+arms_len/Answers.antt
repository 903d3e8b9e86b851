use Rattle.std.proofs.Common.{◌≤◌, subst, sym, arith}
use Rattle.sw_trigger.specs.declared.layer.Layer.{Layer}
use Rattle.sw_base.specs.Limits.{most_arm_count}
use Rattle.sw_trigger.proofs.Awaiting.{fits_awaited}
use Rattle.sw_trigger.proofs.counts.+arms_len.Goals as goal

pub turns_len-requires-clause-fits : goal.turns_len-requires-clause-fits
turns_len-requires-clause-fits t c =
    let range = c.layer-in-len1-up.ensures.range in
    fits_awaited c.args.settings.now.settle_us _ c.arms_len.result c.layer-in-len1-up.result.count (omega (arith, c.requires.few, c.in-len1-up.len_at_least)) c.arms_len.ensures.most
    (subst (λ (l : Layer). l.count ≤ most_arm_count) (sym c.layer-in-len1-up.ensures.layer) (range.arms _).count.1)
