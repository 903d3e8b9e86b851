use Rattle.sw_status.proofs.Requests.{counts_once, settled-first}
use Rattle.sw_status.proofs.laws.event_counts_once.Goals as goal

pub returns : goal.returns
returns c = record { each = counts_once; start = settled-first }
