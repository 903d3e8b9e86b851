use Rattle.std.proofs.Common.{sym, ◌∙◌, ap, arith}
use Rattle.sw_history.proofs.BoardMovesLemmas.{compares, informs}
use Rattle.sw_history.proofs.seat.StatusSeat.join.Goals as goal

pub join_seat-requires : goal.join_seat-requires
join_seat-requires g c =
    let i = c.self.invariant in
    let o = c.other.invariant in
    let b = c.args.board.now in (i.0 ∙ sym b.named, o.0 ∙ sym b.named, o.1, omega (arith, b.one_word), informs b.table.shared.key _ _ _ _ o.2)

pub load-requires : goal.load-requires
load-requires g c =
    let i = c.self.invariant in
    let j = c.join_seat.ensures in
    let b = c.args.board.now in
    let live = ap (λ m. m.0.live) j.2 ∙ i.2 in
    let quiet = ap (λ m. m.0.publishes) j.2 ∙ i.4 in
    (j.0 ∙ (i.0 ∙ sym b.named), omega (arith, b.one_word), compares b.table.shared.key _ _ c.join_seat.new.seat.me live quiet)
