use Rattle.std.proofs.Common.{◌≡◌, ℕ, true, false, refl, sym, subst, ◌∙◌, arith}
use Rattle.std.specs.List.{list_any}
use Rattle.std.specs.Prelude.{◌==◌}
use Rattle.sw_lex.specs.Table.{table, entries}
use Rattle.sw_lex.specs.Rows.{entries_of}
use Rattle.sw_lex.proofs.PartsLemmas.{at_letter, no_common, common_letters}
use Rattle.sw_lex.proofs.common_rows.common_at.Goals as goal

pub returns-in-73 : goal.returns-in-73
unfolding entries_of table entries
returns-in-73 c =
    let e = sym c.to_ascii_uppercase.ensures.value ∙ c.in-73.is in
    (at_letter true _ 73 false _ e refl, at_letter true _ 73 true _ e refl, refl, refl)

pub returns-in-82 : goal.returns-in-82
unfolding entries_of table entries
returns-in-82 c =
    let e = sym c.to_ascii_uppercase.ensures.value ∙ c.in-82.is in
    (at_letter true _ 82 false _ e refl, at_letter true _ 82 true _ e refl, refl, refl)

pub returns-in-79 : goal.returns-in-79
unfolding entries_of table entries
returns-in-79 c =
    let e = sym c.to_ascii_uppercase.ensures.value ∙ c.in-79.is in
    (at_letter true _ 79 false _ e refl, at_letter true _ 79 true _ e refl, refl, refl)

pub returns-in-87 : goal.returns-in-87
unfolding entries_of table entries
returns-in-87 c =
    let e = sym c.to_ascii_uppercase.ensures.value ∙ c.in-87.is in
    (at_letter true _ 87 false _ e refl, at_letter true _ 87 true _ e refl, refl, refl)

pub returns-in-84 : goal.returns-in-84
unfolding entries_of table entries
returns-in-84 c =
    let e = sym c.to_ascii_uppercase.ensures.value ∙ c.in-84.is in
    (at_letter true _ 84 false _ e refl, at_letter true _ 84 true _ e refl, refl, refl)

pub returns-in-67 : goal.returns-in-67
unfolding entries_of table entries
returns-in-67 c =
    let e = sym c.to_ascii_uppercase.ensures.value ∙ c.in-67.is in
    (at_letter true _ 67 false _ e refl, at_letter true _ 67 true _ e refl, refl, refl)

pub returns-in-69 : goal.returns-in-69
unfolding entries_of table entries
returns-in-69 c =
    let e = sym c.to_ascii_uppercase.ensures.value ∙ c.in-69.is in
    (at_letter true _ 69 false _ e refl, at_letter true _ 69 true _ e refl, refl, refl)

pub returns-in-83 : goal.returns-in-83
unfolding entries_of table entries
returns-in-83 c =
    let e = sym c.to_ascii_uppercase.ensures.value ∙ c.in-83.is in
    (at_letter true _ 83 false _ e refl, at_letter true _ 83 true _ e refl, refl, refl)

pub returns-in-68 : goal.returns-in-68
unfolding entries_of table entries
returns-in-68 c =
    let e = sym c.to_ascii_uppercase.ensures.value ∙ c.in-68.is in
    (at_letter true _ 68 false _ e refl, at_letter true _ 68 true _ e refl, refl, refl)

pub returns-in-71 : goal.returns-in-71
unfolding entries_of table entries
returns-in-71 c =
    let e = sym c.to_ascii_uppercase.ensures.value ∙ c.in-71.is in
    (at_letter true _ 71 false _ e refl, at_letter true _ 71 true _ e refl, refl, refl)

pub returns-in-76 : goal.returns-in-76
unfolding entries_of table entries
returns-in-76 c =
    let e = sym c.to_ascii_uppercase.ensures.value ∙ c.in-76.is in
    (at_letter true _ 76 false _ e refl, at_letter true _ 76 true _ e refl, refl, refl)

pub returns-in-80 : goal.returns-in-80
unfolding entries_of table entries
returns-in-80 c =
    let e = sym c.to_ascii_uppercase.ensures.value ∙ c.in-80.is in
    (at_letter true _ 80 false _ e refl, at_letter true _ 80 true _ e refl, refl, refl)

pub returns-in_default : goal.returns-in_default
unfolding entries_of
returns-in_default c =
    let n : list_any (λ y. y == c.to_ascii_uppercase.result) common_letters ≡ false = grind arith in
    let h = subst (λ (x : ℕ). list_any (λ y. y == x) common_letters ≡ false) c.to_ascii_uppercase.ensures.value n in
    (no_common _ h false, no_common _ h true, refl, refl)
