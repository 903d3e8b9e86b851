-- The table of macros as callers see it.
use Rattle.std.specs.Prelude.{ℕ, List, map}
use Rattle.arrayvec.specs.ArrayVec.{ArrayVec}
use Rattle.sw_macro.specs.Table.{Macro, Table}
use Rattle.sw_macro.specs.declared.table.Macros.TheInside.{Inside}

abbrev pub macro_in : ArrayVec ℕ × List ℕ → Macro
macro_in e = (e.0.items, e.1)

abbrev pub macros_in : List (ArrayVec ℕ × List ℕ) → List Macro
macros_in es = map macro_in es

abbrev pub table_of : Inside → Table
table_of m = record { macros = macros_in m.macros.entries; on = m.on }
