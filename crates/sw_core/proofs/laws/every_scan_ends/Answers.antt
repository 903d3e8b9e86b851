use Rattle.sw_core.proofs.ScanRunsLemmas.{every_scan}
use Rattle.sw_core.proofs.laws.every_scan_ends.Goals as goal

pub returns : goal.returns
returns c = every_scan
