use Rattle.std.proofs.Common.{ℕ, List, Some, ap, ◌∙◌}
use Rattle.std.specs.Prelude.{slice_get}
use Rattle.sw_macro.specs.Table.{Table, labels}
use Rattle.sw_macro.proofs.TablesLemmas.{label_at}
use Rattle.sw_macro.proofs.table.Macros.label.Goals as goal

pub returns-in-Some : goal.returns-in-Some
returns-in-Some c =
    ap (λ (b : List ℕ). Some b) c.as_slice.ensures.value ∙ label_at c.self.inside.macros.entries c.args.i _ _ c.in-Some.ensures.entry
    ∙ ap (λ (t : Table). slice_get (labels t.macros) c.args.i) c.self.view_is
