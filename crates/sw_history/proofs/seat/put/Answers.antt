use Rattle.std.proofs.Common.{arith}
use Rattle.sw_history.proofs.BoardMovesLemmas.{publishes}
use Rattle.sw_history.proofs.seat.put.Goals as goal

pub compare_exchange-requires : goal.compare_exchange-requires
compare_exchange-requires g c =
    let r = c.requires in
    let d = r.desk in (
      r.table.0,
      omega (arith, r.table.1),
      publishes c.args.on.now.key _ _ d.0 c.args.pass.now.me c.args.old c.args.new g.T.Telling.said r.live.1 r.live.0 d.1 r.word.0 r.word.1,
    )
