use Rattle.std.proofs.Common.{◌≡◌, ◌<◌, ◌++◌, ◌∷◌, [], ℕ, List, None, length, arith, sym, ap, subst, ◌∙◌}
use Rattle.sw_base.specs.Limits.{most_macros}
use Rattle.sw_macro.specs.Table.{Macro, Table, IsTable, body_of}
use Rattle.sw_macro.specs.Seen.{macros_in}
use Rattle.sw_macro.proofs.TablesLemmas.{added_is}
use Rattle.sw_macro.proofs.LimitsKeptLemmas.{kept_with}
use Rattle.sw_macro.proofs.table.Macros.append.Goals as goal

pub invariant_of-self-2 : goal.invariant_of-self-2
invariant_of-self-2 c =
    let key = c.args.key.items in
    let ms = macros_in c.self.inside.macros.entries in
    let body : c.new.result ≡ c.args.body.now = c.new.ensures ∙ c.in_ok-body.ensures.items_if_clones_equal (λ x y e. e) in
    let none : body_of key ms ≡ None = ap (λ (t : Table). body_of key t.macros) c.self.view_is ∙ c.requires.absent in
    let room : length ms < most_macros = omega (arith, ap (λ (t : Table). length t.macros) c.self.view_is, c.requires.room) in
    let added = ap macros_in c.in_ok-insert.ensures.entries ∙ added_is c.self.inside.macros c.args.key c.new.result none in
    subst IsTable (sym (added ∙ ap (λ (b : List ℕ). ms ++ (key, b) ∷ []) body))
    (kept_with ms (key, c.args.body.now) c.self.invariant none room c.requires.good)

pub returns-clause-added : goal.returns-clause-added
returns-clause-added c =
    let key = c.args.key.items in
    let ms = macros_in c.self.inside.macros.entries in
    let body : c.new.result ≡ c.args.body.now = c.new.ensures ∙ c.in_ok-body.ensures.items_if_clones_equal (λ x y e. e) in
    let none : body_of key ms ≡ None = ap (λ (t : Table). body_of key t.macros) c.self.view_is ∙ c.requires.absent in
    let added = ap macros_in c.in_ok-insert.ensures.entries ∙ added_is c.self.inside.macros c.args.key c.new.result none in
    ap (λ (now : List Macro). record { macros = now; on = c.self.inside.on }) (added ∙ ap (λ (b : List ℕ). ms ++ (key, b) ∷ []) body)
    ∙ ap (λ (t : Table). record { macros = t.macros ++ (key, c.args.body.now) ∷ []; on = t.on }) c.self.view_is
