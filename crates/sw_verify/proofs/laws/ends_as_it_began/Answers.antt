use Rattle.sw_verify.proofs.ReadyLemmas.{ready_sound}
use Rattle.sw_verify.proofs.laws.ends_as_it_began.Goals as goal

pub returns : goal.returns
returns c = (ready_sound c.args.snapshot.now c.requires.passed).back
