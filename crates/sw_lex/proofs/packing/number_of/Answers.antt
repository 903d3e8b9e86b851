use Rattle.std.proofs.Common.{◌<◌, ◌^◌, arith}
use Rattle.sw_lex.proofs.PackedLemmas.{number_small, bytes_more, packed_more}
use Rattle.sw_lex.proofs.packing.number_of.Goals as goal

pub overflow_mul-number : goal.overflow_mul-number
overflow_mul-number c =
    let h : c.loop-byte.number < 2 ^ 100 =
    number_small c.args.word.now c.loop-byte.byte-index c.loop-byte.number (omega arith) (omega arith) c.loop-byte.invariant.bytes c.loop-byte.invariant.number
    in
    omega (arith, h)

pub overflow_add-number : goal.overflow_add-number
overflow_add-number c =
    let h : c.loop-byte.number < 2 ^ 100 =
    number_small c.args.word.now c.loop-byte.byte-index c.loop-byte.number (omega arith) (omega arith) c.loop-byte.invariant.bytes c.loop-byte.invariant.number
    in
    omega (arith, h, c.from.ensures)

pub loop-byte-preserved : goal.loop-byte-preserved
loop-byte-preserved c = record {
  bytes = bytes_more c.args.word.now c.loop-byte.byte-index _ (omega arith) c.to_ascii_uppercase.ensures.value (omega arith) c.loop-byte.invariant.bytes;
  number = packed_more c.args.word.now c.loop-byte.byte-index c.loop-byte.number _ _ (omega arith) c.to_ascii_uppercase.ensures.value c.from.ensures
      c.loop-byte.invariant.number;
}
