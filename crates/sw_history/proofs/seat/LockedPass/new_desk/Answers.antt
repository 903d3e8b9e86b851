use Rattle.std.proofs.Common.{sym, ◌∙◌, arith}
use Rattle.sw_history.proofs.BoardMovesLemmas.{makes_desk}
use Rattle.sw_history.proofs.seat.LockedPass.new_desk.Goals as goal

pub split_seat-seat-requires : goal.split_seat-seat-requires
split_seat-seat-requires g c =
    let i = c.self.invariant in
    let b = c.args.board.now in (i.0 ∙ sym b.named, omega (arith, b.one_word), makes_desk b.table.shared.key _ c.self.inside.pass.me.0 i.4)
