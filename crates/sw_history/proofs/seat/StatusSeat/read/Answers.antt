use Rattle.std.proofs.Common.{sym, ◌∙◌, arith}
use Rattle.sw_history.proofs.BoardMovesLemmas.{reads}
use Rattle.sw_history.proofs.seat.StatusSeat.read.Goals as goal

pub load-found-requires : goal.load-found-requires
load-found-requires g c =
    let i = c.self.invariant in
    let b = c.args.board.now in (i.0 ∙ sym b.named, omega (arith, b.one_word), reads b.table.shared.key _ _ c.self.inside.seat.me i.2)
