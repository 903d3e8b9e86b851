use Rattle.sw_status.proofs.Limits.{group-start, group-kept, status-start, status-kept}
use Rattle.sw_status.proofs.laws.limits_are_kept.Goals as goal

pub returns : goal.returns
returns c = record { start = status-start; each = status-kept; group_start = group-start; each_group = group-kept }
