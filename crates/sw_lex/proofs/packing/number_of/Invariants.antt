use Rattle.std.proofs.Common.{◌≡◌, map, take}
use Rattle.std.specs.Char.{to_ascii_uppercase}
use Rattle.sw_base.specs.Text.{AllPass}
use Rattle.sw_lex.specs.Packed.{packed, is_byte}
use Rattle.sw_lex.proofs.packing.number_of.Given as goal

abbrev pub invariant-loop-byte : goal.invariant-loop-byte
invariant-loop-byte l = record {
  bytes : AllPass is_byte (map to_ascii_uppercase (take l.byte-index l.word));
  number : l.number ≡ packed (map to_ascii_uppercase (take l.byte-index l.word));
}
