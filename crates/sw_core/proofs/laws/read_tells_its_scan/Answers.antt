use Rattle.sw_core.proofs.ReadsLemmas.{reads_own}
use Rattle.sw_core.proofs.laws.read_tells_its_scan.Goals as goal

pub returns : goal.returns
returns c = reads_own
