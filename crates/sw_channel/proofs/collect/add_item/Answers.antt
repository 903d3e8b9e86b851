use Rattle.std.proofs.Common.{◌+◌, ◌∙◌, refl, arith}
use Rattle.sw_channel.proofs.Judging.{leads_full, leads_fits}
use Rattle.sw_channel.proofs.collect.add_item.Goals as goal

pub returns-then-known-more-clause-taken : goal.returns-then-known-more-clause-taken
returns-then-known-more-clause-taken c i m is all h =
    leads_full c.in-Ok.known i is all c.in-Some.run' c.from-more.result (rw c.in-Some.is at m)
    (c.from-more.ensures ∙ c.count.ensures.value) c.if-known-more.true (rw c.in-Ok.is at h)

pub returns-else-known-more-clause-taken : goal.returns-else-known-more-clause-taken
returns-else-known-more-clause-taken c i m is all h =
    leads_fits c.in-Ok.known (record { count = c.in-Ok.known.count + c.from-more.result; entries = c.push_run.new.entries }) i is all c.in-Some.run'
    c.from-more.result (rw c.in-Some.is at m) (c.from-more.ensures ∙ c.count.ensures.value) c.if-known-more.false
    (omega (arith, c.from-more.ensures, c.count.ensures.range)) refl c.push_run.ensures (rw c.in-Ok.is at h)
