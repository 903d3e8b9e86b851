use Rattle.std.proofs.Common.{◌≡◌, List, subst}
use Rattle.std.specs.Prelude.{IfOk}
use Rattle.sw_channel.specs.Positions.{Position}
use Rattle.sw_channel.proofs.Judging.{each_more}
use Rattle.sw_channel.proofs.positions.push_each.Goals as goal

pub loop-k-preserved : goal.loop-k-preserved
loop-k-preserved c front h =
    let run = c.args.run.now in
    subst (λ (l : List Position). IfOk c.push_found.new.entries (λ v. v.items ≡ l)) (each_more front run.first.0 run.first.1 run.last.1 c.loop-k.k)
    (rw (c.new.ensures, c.channel.ensures) at (c.push_found.ensures _ (c.loop-k.invariant front h)))
