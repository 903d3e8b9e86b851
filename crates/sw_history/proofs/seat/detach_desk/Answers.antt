use Rattle.std.proofs.Common.{◌∙◌, ap, arith}
use Rattle.sw_history.proofs.BoardMovesLemmas.{rides_off, rides_back}
use Rattle.sw_history.proofs.seat.detach_desk.Goals as goal

pub split_seat-lent-requires : goal.split_seat-lent-requires
split_seat-lent-requires c =
    let t = c.requires.table in
    let d = c.requires.desk in (t.0, omega arith, rides_off c.args.on.now.key _ d.0 c.args.pass.now.me.0 d.1)

pub join_seat-requires : goal.join_seat-requires
join_seat-requires c =
    let t = c.requires.table in
    let d = c.requires.desk in
    let s = c.split_seat-lent.ensures in
    let there = ap (λ m. m.0.desk) s.4 ∙ d.1 in
    let back = rides_back c.args.on.now.key _ d.0 c.args.desk.now.me.0 _ c.split_seat-lent.result.me.0 there in
    (t.1, s.3 ∙ t.0, ap (λ m. m.1) s.4, omega arith, back)
