use Rattle.std.proofs.Common.{◌∙◌}
use Rattle.sw_channel.proofs.Judging.{length-alone}
use Rattle.sw_channel.proofs.entry.Entry.count.Goals as goal

pub returns-in-Range-clause-value : goal.returns-in-Range-clause-value
returns-in-Range-clause-value c = rw c.in-Range.is (length-alone c.in-Range.run' c.from.result (c.from.ensures ∙ c.count.ensures.value))
