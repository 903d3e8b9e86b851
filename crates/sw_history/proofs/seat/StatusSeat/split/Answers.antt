use Rattle.std.proofs.Common.{sym, ◌∙◌, arith}
use Rattle.sw_history.proofs.BoardMovesLemmas.{copies}
use Rattle.sw_history.proofs.seat.StatusSeat.split.Goals as goal

pub split_seat-seat-requires : goal.split_seat-seat-requires
split_seat-seat-requires g c =
    let i = c.self.invariant in
    let b = c.args.board.now in (i.0 ∙ sym b.named, omega (arith, b.one_word), copies b.table.shared.key _ c.self.inside.seat.me.0)
