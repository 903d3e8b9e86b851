use Rattle.std.proofs.Common.{subst, sym}
use Rattle.sw_macro.specs.Table.{IsTable}
use Rattle.sw_macro.specs.Seen.{macros_in}
use Rattle.sw_macro.proofs.LimitsKeptLemmas.{kept_none}
use Rattle.sw_macro.proofs.table.Macros.purge.Goals as goal

pub invariant_of-self : goal.invariant_of-self
invariant_of-self c = subst (λ es. IsTable (macros_in es)) (sym c.clear.ensures.empty) kept_none
