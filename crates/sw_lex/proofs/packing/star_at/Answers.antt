use Rattle.std.proofs.Common.{◌<◌, ◌^◌, arith, sym, ◌∙◌}
use Rattle.sw_lex.proofs.PackedLemmas.{star_few, bytes_more, star_more}
use Rattle.sw_lex.proofs.HeadedLemmas.{letter_more}
use Rattle.sw_lex.proofs.packing.star_at.Goals as goal

pub overflow_mul-number : goal.overflow_mul-number
overflow_mul-number c =
    let h : c.loop-n.number < 2 ^ 52 =
    star_few c.args.more.now c.loop-n.n c.loop-n.number c.loop-n.invariant.in_range (omega arith) c.loop-n.invariant.bytes c.loop-n.invariant.number in
    omega (arith, h)

pub overflow_add-number : goal.overflow_add-number
overflow_add-number c =
    let h : c.loop-n.number < 2 ^ 52 =
    star_few c.args.more.now c.loop-n.n c.loop-n.number c.loop-n.invariant.in_range (omega arith) c.loop-n.invariant.bytes c.loop-n.invariant.number in
    omega (arith, h, c.from.ensures)

pub loop-n-preserved : goal.loop-n-preserved
loop-n-preserved c =
    let more = c.args.more.now in
    let n = c.loop-n.n in
    let h = c.loop-n.invariant in
    record {
      in_range = omega arith;
      few = omega arith;
      pass = letter_more more n (omega arith) h.pass (sym c.is_letter.ensures ∙ c.if-is_letter.true);
      bytes = bytes_more more n _ (omega arith) c.to_ascii_uppercase.ensures.value (omega arith) h.bytes;
      number = star_more more n c.loop-n.number _ _ (omega arith) c.to_ascii_uppercase.ensures.value c.from.ensures h.number;
    }
