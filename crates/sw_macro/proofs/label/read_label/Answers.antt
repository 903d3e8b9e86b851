use Rattle.std.proofs.Common.{◌≤◌, length, arith, sym, ◌∙◌}
use Rattle.sw_macro.proofs.LabelsLemmas.{label_short}
use Rattle.sw_macro.proofs.label.read_label.Goals as goal

pub push-requires : goal.push-requires
push-requires c =
    let k : length c.args.bytes.now ≤ 12 = label_short c.args.bytes.now (sym c.is_label.ensures ∙ c.if-not-is_label.false) in
    omega (arith, k, c.loop-b.invariant.len)
