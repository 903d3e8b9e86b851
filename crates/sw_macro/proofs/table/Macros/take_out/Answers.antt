use Rattle.std.proofs.Common.{ℕ, List, Option, subst, sym, ap, ◌∙◌}
use Rattle.std.specs.Prelude.{is_some}
use Rattle.sw_macro.specs.Table.{Table, Macro, IsTable, body_of, without_label}
use Rattle.sw_macro.specs.Seen.{macros_in}
use Rattle.sw_macro.proofs.TablesLemmas.{found_is, removed_is, without_none}
use Rattle.sw_macro.proofs.LimitsKeptLemmas.{kept_without, gone_without}
use Rattle.sw_macro.proofs.table.Macros.take_out.Goals as goal

pub invariant_of-self : goal.invariant_of-self
invariant_of-self c =
    let key = c.args.key.now.items in
    let before = c.self.inside.macros.entries in
    let removed = ap macros_in c.shift_remove.ensures.entries ∙ removed_is key before in
    subst IsTable (sym removed) (kept_without key (macros_in before) c.self.invariant)

pub returns-clause-found : goal.returns-clause-found
returns-clause-found c =
    let key = c.args.key.now.items in
    let found = found_is key c.self.inside.macros.entries ∙ ap (λ (t : Table). body_of key t.macros) c.self.view_is in
    c.is_some.ensures ∙ ap (λ (o : Option (List ℕ)). is_some o) (c.shift_remove.ensures.value ∙ found)

pub returns-clause-removed : goal.returns-clause-removed
returns-clause-removed c =
    let key = c.args.key.now.items in
    let removed = ap macros_in c.shift_remove.ensures.entries ∙ removed_is key c.self.inside.macros.entries in
    ap (λ (ms : List Macro). record { macros = ms; on = c.self.inside.on }) removed
    ∙ ap (λ (t : Table). record { macros = without_label key t.macros; on = t.on }) c.self.view_is

pub returns-clause-gone : goal.returns-clause-gone
returns-clause-gone c =
    let key = c.args.key.now.items in
    let before = c.self.inside.macros.entries in
    let removed = ap macros_in c.shift_remove.ensures.entries ∙ removed_is key before in
    ap (λ (ms : List Macro). body_of key ms) removed ∙ gone_without key (macros_in before) c.self.invariant.distinct

pub returns-clause-kept : goal.returns-clause-kept
returns-clause-kept c = λ absent.
    let key = c.args.key.now.items in
    let t = c.args.self.now in
    let none = without_none key t.macros (sym (returns-clause-found c) ∙ absent) in
    returns-clause-removed c ∙ ap (λ (ms : List Macro). record { macros = ms; on = t.on }) none
