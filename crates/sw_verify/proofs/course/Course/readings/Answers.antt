use Rattle.std.proofs.Common.{◌≡◌, ◌<◌, ◌^◌, ◌∙◌, ap, arith, rules}
use Rattle.sw_trigger.specs.Counts.{reads}
use Rattle.sw_verify.specs.Items.{items_of}
use Rattle.sw_verify.specs.Course.{CourseSeen}
use Rattle.sw_verify.proofs.CourseLemmas.{counted_reads}
use Rattle.sw_verify.proofs.course.Course.readings.Goals as goal

pub overflow_cast-result : goal.overflow_cast-result
overflow_cast-result c =
    let told : c.readings.result ≡ reads (items_of c.self.inside.verified.code.steps) = c.readings.ensures.readings
    ∙ counted_reads c.self.inside.verified c.readings.ensures.counts c.self.invariant.runs in
    let few : c.readings.result < 2 ^ 32 = omega (arith, told, c.self.invariant.fits, c.self.invariant.room) in
    search rules

pub returns-clause-readings : goal.returns-clause-readings
returns-clause-readings c =
    c.readings.ensures.readings ∙ counted_reads c.self.inside.verified c.readings.ensures.counts c.self.invariant.runs
    ∙ ap (λ (x : CourseSeen). reads x.items) c.self.view_is

pub returns-clause-fits : goal.returns-clause-fits
returns-clause-fits c =
    let told : c.readings.result ≡ reads (items_of c.self.inside.verified.code.steps) = c.readings.ensures.readings
    ∙ counted_reads c.self.inside.verified c.readings.ensures.counts c.self.invariant.runs in
    omega (arith, told, c.self.invariant.fits, ap (λ (x : CourseSeen). x.points) c.self.view_is)
