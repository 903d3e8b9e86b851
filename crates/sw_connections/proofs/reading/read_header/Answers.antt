use Rattle.std.proofs.Common.{rules}
use Rattle.sw_connections.proofs.WaitedLemmas.{waited_on}
use Rattle.sw_connections.proofs.reading.read_header.Goals as goal

pub loop-preserved : goal.loop-preserved
loop-preserved g c = (
  tt,
  tt,
  search rules,
  waited_on _ _ _ c.receive.result c.loop.invariant.3 c.receive.ensures.pauses,
  c.loop.invariant.4,
  c.loop.invariant.5,
)
