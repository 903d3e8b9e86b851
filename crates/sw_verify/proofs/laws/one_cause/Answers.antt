use Rattle.sw_verify.proofs.OnceLemmas.{one_first}
use Rattle.sw_verify.proofs.laws.one_cause.Goals as goal

pub returns : goal.returns
returns c = one_first c.args.snapshot.now
