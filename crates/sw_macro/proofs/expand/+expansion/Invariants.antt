use Rattle.std.proofs.Common.{◌≡◌, ◌-◌, ◌+◌, ◌*◌, length}
use Rattle.sw_macro.specs.Placed.{names_of}
use Rattle.sw_macro.proofs.ExpansionsLemmas.{Unwritten}
use Rattle.sw_macro.proofs.expand.+expansion.Given as goal

abbrev pub decreases-write_body : goal.decreases-write_body
decreases-write_body l = 3 * (8 - length l.names.now.items) + 2

abbrev pub decreases-write_unit : goal.decreases-write_unit
decreases-write_unit l = 3 * (8 - length l.names.now.items) + 1

abbrev pub decreases-write_within : goal.decreases-write_within
decreases-write_within l = 3 * (8 - length l.names.now.items)

abbrev pub invariant-write_body-units : goal.invariant-write_body-units
invariant-write_body-units l = record {
  names : l.names ≡ l.fn.names;
  so_far : Unwritten l.macros.macros (names_of l.fn.names.items) l.body l.fn.out.items l.unwritten l.rest l.out.items;
}

abbrev pub decreases-write_body-units : goal.decreases-write_body-units
decreases-write_body-units l = length l.rest
