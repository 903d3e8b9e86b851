use Rattle.std.proofs.Common.{ap, sym, subst, ◌∙◌}
use Rattle.sw_verify.specs.Rows.{flags_of, IsKept}
use Rattle.sw_verify.proofs.Flags.{flags_nothing, kept_nothing, kept_row}
use Rattle.sw_verify.proofs.row.Row.keep.Goals as goal

pub invariant_of-result : goal.invariant_of-result
invariant_of-result c = subst IsKept (sym c.new.ensures.items) kept_nothing

pub returns-then-is_clear : goal.returns-then-is_clear
returns-then-is_clear c = ap flags_of c.new.ensures.items ∙ flags_nothing ∙ sym (c.is_clear.ensures.0 c.if-is_clear.true)

pub invariant_of-result-2 : goal.invariant_of-result-2
invariant_of-result-2 c =
    let same = c.in_ok-to_vec.ensures.items_if_clones_equal (λ x y h. h) in
    subst IsKept (sym same) (kept_row c.self.inside.words c.self.inside.count c.self.invariant)

pub returns : goal.returns
returns c = ap flags_of (c.in_ok-to_vec.ensures.items_if_clones_equal (λ x y h. h)) ∙ c.self.view_is
