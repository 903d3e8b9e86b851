use Rattle.std.proofs.Common.{arith}
use Rattle.sw_verify.specs.Setup.{agenda}
use Rattle.sw_verify.proofs.Throughout.{reads_so_far}
use Rattle.sw_verify.proofs.ReadyLemmas.{ready_sound}
use Rattle.sw_verify.proofs.laws.stays_within_its_points.Goals as goal

pub returns : goal.returns
returns c =
    let p = c.args.snapshot.now in
    let fits = (ready_sound p c.requires.passed).fits in
    λ i. omega (arith, reads_so_far (agenda p.settings) i, fits)
