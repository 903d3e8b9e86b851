use Rattle.std.proofs.Common.{ap, take, drop, ◌∙◌, arith}
use Rattle.std.proofs.lemmas.List.{drop-drop}
use Rattle.sw_hislip.proofs.Headers.{read_is}
use Rattle.sw_hislip.proofs.header.read_header.Goals as goal

pub returns : goal.returns
returns c =
    let bytes = c.args.bytes.now in
    let numbers = c.split_at.ensures.back in
    let parameter = c.split_at-2.ensures.front ∙ ap (take 4) numbers in
    let rest = c.split_at-2.ensures.back ∙ ap (drop 4) numbers ∙ drop-drop 4 4 bytes in
    let size = c.split_at-3.ensures.front ∙ ap (take 8) rest in
    read_is bytes _ _ c.of.result c.number_of_4.result c.number_of_8.result (λ i. omega (arith, c.type_inv.bytes i)) c.of.ensures.proper c.of.ensures.value
    (omega (arith, c.if-bytes-lt-HEADER.false)) c.if-bytes-ne72.false c.if-bytes-ne83.false parameter size
    c.number_of_4.ensures c.number_of_8.ensures c.number_of_4.type_inv c.number_of_8.type_inv
