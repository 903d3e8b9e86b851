use Rattle.std.proofs.Common.{arith}
use Rattle.sw_verify.proofs.SourcesLemmas.{each_source}
use Rattle.sw_verify.proofs.sources.Sources.new.Goals as goal

pub returns : goal.returns
returns c =
    let told = c.loop-i.invariant in
    each_source c.args.settings.now c.loop-i.by_layer told.size told.trigger (λ j few. told.arms j (omega (arith, few, c.loop-i-test.false)))
