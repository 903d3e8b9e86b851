use Rattle.std.proofs.Common.{ap, ◌∙◌}
use Rattle.sw_macro.specs.Table.{Table, body_of}
use Rattle.sw_macro.specs.Seen.{macros_in}
use Rattle.sw_macro.proofs.TablesLemmas.{found_is}
use Rattle.sw_macro.proofs.LimitsKeptLemmas.{found_all_short}
use Rattle.sw_macro.proofs.table.Macros.found.Goals as goal

pub returns-clause-value : goal.returns-clause-value
returns-clause-value c =
    let key = c.args.key.now.items in
    c.get.ensures.value ∙ found_is key c.self.inside.macros.entries ∙ ap (λ (t : Table). body_of key t.macros) c.self.view_is

pub returns-clause-short : goal.returns-clause-short
returns-clause-short c =
    let key = c.args.key.now.items in
    found_all_short key (macros_in c.self.inside.macros.entries) c.get.result c.self.invariant.each
    (c.get.ensures.value ∙ found_is key c.self.inside.macros.entries)
