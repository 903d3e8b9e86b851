use Rattle.std.proofs.Common.{◌≡◌, List, subst}
use Rattle.std.specs.Prelude.{IfOk}
use Rattle.sw_base.specs.Layout.{Channel}
use Rattle.sw_channel.proofs.Judging.{run_more}
use Rattle.sw_channel.proofs.collect.push_run.Goals as goal

pub loop-k-preserved : goal.loop-k-preserved
loop-k-preserved c front h =
    let run = c.args.run.now in
    subst (λ (l : List Channel). IfOk c.push_found.new.entries (λ v. v.items ≡ l)) (run_more front run.first.0 run.first.1 run.last.1 c.loop-k.k)
    (rw c.channel.ensures at (c.push_found.ensures _ (c.loop-k.invariant front h)))
