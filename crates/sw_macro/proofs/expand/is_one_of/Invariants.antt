use Rattle.std.proofs.Common.{◌≡◌, drop}
use Rattle.sw_macro.specs.Placed.{names_of}
use Rattle.sw_macro.specs.Expansion.{is_one_of}
use Rattle.sw_macro.proofs.expand.is_one_of.Given as goal

abbrev pub invariant-loop-name : goal.invariant-loop-name
invariant-loop-name l =
    is_one_of l.label.items (names_of l.names) ≡ is_one_of l.label.items (names_of (drop l.name-index l.names))
