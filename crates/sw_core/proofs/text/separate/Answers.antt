use Rattle.std.proofs.Common.{rules}
use Rattle.sw_core.proofs.RowsLemmas.{open-first, open-next}
use Rattle.sw_core.proofs.text.separate.Goals as goal

pub returns-then-is_empty : goal.returns-then-is_empty
returns-then-is_empty c pieces row = open-first _ pieces (search rules) row

pub returns : goal.returns
returns c pieces row = rw c.in_ok-push.ensures.items (open-next _ pieces (search rules) row)
