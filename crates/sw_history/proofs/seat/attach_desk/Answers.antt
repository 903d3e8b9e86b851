use Rattle.std.proofs.Common.{◌∙◌, ap, arith}
use Rattle.sw_history.proofs.BoardMovesLemmas.{reads, rides_off, rides_on}
use Rattle.sw_history.proofs.seat.attach_desk.Goals as goal

pub split_seat-lent-requires : goal.split_seat-lent-requires
split_seat-lent-requires c =
    let t = c.requires.table in
    let d = c.requires.desk in (t.1, omega arith, rides_off c.args.on.now.key _ d.0 c.args.desk.now.me.0 d.1)

pub join_seat-requires : goal.join_seat-requires
join_seat-requires c =
    let t = c.requires.table in
    let d = c.requires.desk in
    let s = c.split_seat-lent.ensures in
    let there = ap (λ m. m.0.desk) s.4 ∙ d.1 in
    let live = ap (λ m. m.0.live) s.4 ∙ c.requires.live.2 in
    let on = rides_on c.args.on.now.key _ d.0 c.args.pass.now.me.0 _ c.split_seat-lent.result.me.0 there live in
    (t.0, s.3 ∙ t.1, ap (λ m. m.1) s.4, omega arith, on)

pub load-requires : goal.load-requires
load-requires c =
    let t = c.requires.table in
    let j = c.join_seat.ensures in
    let live = ap (λ m. m.0.live) j.2 ∙ c.requires.live.1 in
    (j.0 ∙ t.0, omega arith, reads c.args.on.now.key _ _ c.join_seat.new.seat.me live)
