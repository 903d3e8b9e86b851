use Rattle.std.proofs.Common.{◌≡◌, ℕ, true, false, refl, sym, subst, ◌∙◌, arith}
use Rattle.std.specs.List.{list_any}
use Rattle.std.specs.Prelude.{◌==◌}
use Rattle.sw_lex.specs.Table.{table, entries}
use Rattle.sw_lex.specs.Rows.{entries_of}
use Rattle.sw_lex.proofs.PartsLemmas.{at_letter, no_paths, path_letters}
use Rattle.sw_lex.proofs.rows.path_at.Goals as goal

pub returns-in-65 : goal.returns-in-65
unfolding entries_of table entries
returns-in-65 c =
    let e = sym c.to_ascii_uppercase.ensures.value ∙ c.in-65.is in
    (at_letter false _ 65 false _ e refl, at_letter false _ 65 true _ e refl, refl, refl)

pub returns-in-73 : goal.returns-in-73
unfolding entries_of table entries
returns-in-73 c =
    let e = sym c.to_ascii_uppercase.ensures.value ∙ c.in-73.is in
    (at_letter false _ 73 false _ e refl, at_letter false _ 73 true _ e refl, refl, refl)

pub returns-in-84 : goal.returns-in-84
unfolding entries_of table entries
returns-in-84 c =
    let e = sym c.to_ascii_uppercase.ensures.value ∙ c.in-84.is in
    (at_letter false _ 84 false _ e refl, at_letter false _ 84 true _ e refl, refl, refl)

pub returns-in-82 : goal.returns-in-82
unfolding entries_of table entries
returns-in-82 c =
    let e = sym c.to_ascii_uppercase.ensures.value ∙ c.in-82.is in
    (at_letter false _ 82 false _ e refl, at_letter false _ 82 true _ e refl, refl, refl)

pub returns-in-83 : goal.returns-in-83
unfolding entries_of table entries
returns-in-83 c =
    let e = sym c.to_ascii_uppercase.ensures.value ∙ c.in-83.is in
    (at_letter false _ 83 false _ e refl, at_letter false _ 83 true _ e refl, refl, refl)

pub returns-in-68 : goal.returns-in-68
unfolding entries_of table entries
returns-in-68 c =
    let e = sym c.to_ascii_uppercase.ensures.value ∙ c.in-68.is in
    (at_letter false _ 68 false _ e refl, at_letter false _ 68 true _ e refl, refl, refl)

pub returns-in-70 : goal.returns-in-70
unfolding entries_of table entries
returns-in-70 c =
    let e = sym c.to_ascii_uppercase.ensures.value ∙ c.in-70.is in
    (at_letter false _ 70 false _ e refl, at_letter false _ 70 true _ e refl, refl, refl)

pub returns-in_default : goal.returns-in_default
unfolding entries_of
returns-in_default c =
    let n : list_any (λ y. y == c.to_ascii_uppercase.result) path_letters ≡ false = grind arith in
    let h = subst (λ (x : ℕ). list_any (λ y. y == x) path_letters ≡ false) c.to_ascii_uppercase.ensures.value n in
    (no_paths _ h false, no_paths _ h true, refl, refl)
