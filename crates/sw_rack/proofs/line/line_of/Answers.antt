use Rattle.std.proofs.Common.{◌≡◌, length, arith}
use Rattle.sw_rack.proofs.Fronts.{line_missing}
use Rattle.sw_rack.proofs.line.line_of.Goals as goal

pub returns : goal.returns
returns c =
    let at_end : length c.in_ok-ends.ends.items ≡ c.loop-low.low =
    omega (arith, c.loop-low-test.false, c.loop-low.invariant.within, c.loop-low.invariant.ordered, c.if-low-len.false, c.len.ensures) in
    line_missing c.args.fault.now c.args.text.now c.in_ok-ends.ends.items c.loop-low.low c.in_ok-ends.ensures at_end c.loop-low.invariant.hidden
