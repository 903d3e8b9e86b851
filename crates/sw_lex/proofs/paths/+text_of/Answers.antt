use Rattle.std.proofs.Common.{◌≤◌, ◌-◌, ◌/◌, length, arith}
use Rattle.std.specs.Char.{to_ascii_uppercase}
use Rattle.std.proofs.lemmas.List.{length-map}
use Rattle.sw_lex.specs.Packed.{last_bytes}
use Rattle.sw_lex.proofs.PackedLemmas.{last_length}
use Rattle.sw_lex.proofs.paths.+text_of.Goals as goal

pub push-requires : goal.push-requires
push-requires t c =
    let most = c.args.most - 1 in
    let rest = c.args.number / 256 in
    let l : length c.text_of-text.result.items ≤ most =
    rw c.text_of-text.ensures (omega (arith, length-map (last_bytes most rest) to_ascii_uppercase, last_length most rest)) in
    (omega arith, omega (arith, l, c.requires, c.if-most-eq0.false))
