use Rattle.std.proofs.Common.{◌≤◌, subst, sym, arith}
use Rattle.sw_trigger.specs.declared.layer.Layer.{Layer}
use Rattle.sw_base.specs.Limits.{most_arm_count}
use Rattle.sw_trigger.proofs.Awaiting.{fits_read}
use Rattle.sw_trigger.proofs.counts.+arms_times.Goals as goal

pub overflow_mul-result : goal.overflow_mul-result
overflow_mul-result t c =
    let range = c.layer-in-len1-up.ensures.range in
    let count = subst (λ (l : Layer). l.count ≤ most_arm_count) (sym c.layer-in-len1-up.ensures.layer) (range.arms _).count.1 in
    let fits = fits_read _ c.arms_times.result c.from-in-len1-up.result (omega (arith, c.requires.few, c.in-len1-up.len_at_least)) c.arms_times.ensures.most
    (omega (arith, c.from-in-len1-up.ensures, count)) in
    omega (arith, fits)
