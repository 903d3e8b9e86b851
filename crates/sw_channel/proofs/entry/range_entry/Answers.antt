use Rattle.std.proofs.Common.{◌∙◌, arith}
use Rattle.sw_channel.proofs.Judging.{range_full, range_fits}
use Rattle.sw_channel.proofs.entry.range_entry.Goals as goal

pub returns-then-count-more : goal.returns-then-count-more
returns-then-count-more c v w f l =
    range_full c.args.count v w c.in-Some.run' c.from-more.result (rw c.in-Some.is at (c.range_run.ensures v w f l))
    (c.from-more.ensures ∙ c.count.ensures.value) c.if-count-more.true

pub returns-else-count-more : goal.returns-else-count-more
returns-else-count-more c v w f l =
    range_fits c.args.count v w c.in-Some.run' c.from-more.result (rw c.in-Some.is at (c.range_run.ensures v w f l))
    (c.from-more.ensures ∙ c.count.ensures.value) (omega (arith, c.from-more.ensures, c.count.ensures.range)) c.if-count-more.false
