use Rattle.std.proofs.Common.{◌≡◌, true, false, sym, ◌∙◌, arith}
use Rattle.sw_verify.specs.Rows.{flag_at}
use Rattle.sw_verify.proofs.Flags.{row_with, flags_with, flags_stay, count_most}
use Rattle.sw_verify.proofs.row.Row.set.Goals as goal

pub overflow_add-self : goal.overflow_add-self
overflow_add-self c = omega (arith, count_most c.self.inside.words c.self.inside.count c.self.invariant)

pub invariant_of-self : goal.invariant_of-self
invariant_of-self c =
    let off : flag_at c.self.inside.words c.args.at ≡ false = sym c.has_bit.ensures ∙ c.if-not-has_bit.true in
    row_with c.self.inside.words c.self.inside.count c.args.at c.self.invariant c.requires off

pub returns-then-not-has_bit : goal.returns-then-not-has_bit
returns-then-not-has_bit c = rw (← c.self.view_is) (flags_with c.self.inside.words c.self.inside.count c.args.at c.self.invariant c.requires)

pub returns-else-not-has_bit : goal.returns-else-not-has_bit
returns-else-not-has_bit c =
    let on : flag_at c.self.inside.words c.args.at ≡ true = sym c.has_bit.ensures ∙ c.if-not-has_bit.false in
    rw (← c.self.view_is) (flags_stay c.self.inside.words c.args.at true c.requires on)
