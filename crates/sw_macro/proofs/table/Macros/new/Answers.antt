use Rattle.std.proofs.Common.{subst, sym}
use Rattle.sw_macro.specs.Table.{IsTable}
use Rattle.sw_macro.specs.Seen.{macros_in}
use Rattle.sw_macro.proofs.LimitsKeptLemmas.{kept_none}
use Rattle.sw_macro.proofs.table.Macros.new.Goals as goal

pub invariant_of-result : goal.invariant_of-result
invariant_of-result c = subst (λ es. IsTable (macros_in es)) (sym c.new.ensures.empty) kept_none
