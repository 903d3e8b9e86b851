use Rattle.sw_verify.proofs.Flags.{row_none, flags_none}
use Rattle.sw_verify.proofs.row.Row.new.Goals as goal

pub invariant_of-result : goal.invariant_of-result
invariant_of-result c = row_none

pub returns : goal.returns
returns c = flags_none
