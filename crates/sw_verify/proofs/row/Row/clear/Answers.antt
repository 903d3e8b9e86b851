use Rattle.std.proofs.Common.{◌≡◌, true, false, sym, ◌∙◌}
use Rattle.sw_verify.specs.Rows.{flag_at}
use Rattle.sw_verify.proofs.Flags.{row_without, flags_without, flags_stay}
use Rattle.sw_verify.proofs.row.Row.clear.Goals as goal

pub overflow_sub-self : goal.overflow_sub-self
overflow_sub-self c =
    let on : flag_at c.self.inside.words c.args.at ≡ true = sym c.has_bit.ensures ∙ c.if-has_bit.true in
    (row_without c.self.inside.words c.self.inside.count c.args.at c.self.invariant c.requires on).0

pub invariant_of-self : goal.invariant_of-self
invariant_of-self c =
    let on : flag_at c.self.inside.words c.args.at ≡ true = sym c.has_bit.ensures ∙ c.if-has_bit.true in
    (row_without c.self.inside.words c.self.inside.count c.args.at c.self.invariant c.requires on).1

pub returns-then-has_bit : goal.returns-then-has_bit
returns-then-has_bit c = rw (← c.self.view_is) (flags_without c.self.inside.words c.self.inside.count c.args.at c.self.invariant c.requires)

pub returns-else-has_bit : goal.returns-else-has_bit
returns-else-has_bit c =
    let off : flag_at c.self.inside.words c.args.at ≡ false = sym c.has_bit.ensures ∙ c.if-has_bit.false in
    rw (← c.self.view_is) (flags_stay c.self.inside.words c.args.at false c.requires off)
