use Rattle.sw_core.proofs.ScanToldLemmas.{scan_told}
use Rattle.sw_core.proofs.laws.scan_is_told.Goals as goal

pub returns : goal.returns
returns c = scan_told
