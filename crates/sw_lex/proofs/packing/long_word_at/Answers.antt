use Rattle.std.proofs.Common.{◌<◌, ◌^◌, get_or, arith, sym, ◌∙◌}
use Rattle.sw_lex.proofs.PackedLemmas.{number_small, bytes_more, packed_more}
use Rattle.sw_lex.proofs.HeadedLemmas.{long_number, word_more, capital_word, capital_so}
use Rattle.sw_lex.proofs.packing.long_word_at.Goals as goal

pub overflow_mul-number : goal.overflow_mul-number
overflow_mul-number c =
    let h : c.loop-n.number < 2 ^ 100 =
    number_small c.args.text.now c.loop-n.n c.loop-n.number c.loop-n.invariant.in_range c.loop-n.invariant.few c.loop-n.invariant.bytes
    c.loop-n.invariant.number in
    omega (arith, h)

pub overflow_add-number : goal.overflow_add-number
overflow_add-number c =
    let h : c.loop-n.number < 2 ^ 100 =
    number_small c.args.text.now c.loop-n.n c.loop-n.number c.loop-n.invariant.in_range c.loop-n.invariant.few c.loop-n.invariant.bytes
    c.loop-n.invariant.number in
    omega (arith, h, c.from.ensures)

pub loop-n-preserved : goal.loop-n-preserved
loop-n-preserved c =
    let text = c.args.text.now in
    let n = c.loop-n.n in
    let h = c.loop-n.invariant in
    let word = capital_word (get_or text n 0) _ c.capital.ensures c.if-capital-ne0.true in
    let up = capital_so (get_or text n 0) _ _ c.capital.ensures c.if-capital-ne0.true c.capital-in-loop-n.ensures in
    record {
      in_range = omega arith;
      few = omega arith;
      pass = word_more text n (omega arith) h.pass word.0;
      bytes = bytes_more text n _ (omega arith) up (omega arith) h.bytes;
      number = packed_more text n c.loop-n.number _ _ (omega arith) up c.from.ensures h.number;
    }

pub returns-then-is_word-clause-number : goal.returns-then-is_word-clause-number
returns-then-is_word-clause-number c =
    long_number c.args.text.now c.words.result.0.now c.words.result.1.now c.loop-n.n c.words.ensures (omega arith) (omega arith) c.loop-n.invariant.pass
    (sym c.is_word.ensures ∙ c.if-is_word.true)
