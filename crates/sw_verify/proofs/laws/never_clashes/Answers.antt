use Rattle.sw_verify.specs.Setup.{agenda}
use Rattle.sw_verify.specs.Channels.{is_among, none}
use Rattle.sw_verify.proofs.Throughout.{exclusive_throughout}
use Rattle.sw_verify.proofs.ReadyLemmas.{ready_sound}
use Rattle.sw_verify.proofs.laws.never_clashes.Goals as goal

pub returns : goal.returns
returns c =
    let p = c.args.snapshot.now in
    exclusive_throughout p.layout (is_among p.closed) none (agenda p.settings) (ready_sound p c.requires.passed).right c.requires.began
