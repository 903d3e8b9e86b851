use Rattle.std.proofs.Common.{arith}
use Rattle.sw_session.proofs.ServeKnownLemmas.{appends-part, appends-keeps, part-take}
use Rattle.sw_session.proofs.writing.write_all.Goals as goal

pub loop-preserved : goal.loop-preserved
loop-preserved g c = record {
  within = omega (arith, c.in-Ok.ensures.bound);
  wrote = appends-part _ (g.W.Write.contents c.loop.writer) (g.W.Write.contents c.write_part.new.writer) c.args.bytes.now c.loop.done c.in-Ok.written
      (omega arith) (omega (arith, c.in-Ok.ensures.bound)) c.loop.invariant.wrote c.in-Ok.ensures.bytes;
}

pub returns-in-Err : goal.returns-in-Err
returns-in-Err g c = part-take _ _ _ c.loop.done (appends-keeps _ (g.W.Write.contents c.loop.writer) _ _ c.loop.invariant.wrote c.in-Err.ensures.bytes)

pub returns : goal.returns
returns g c = part-take _ _ _ c.loop.done c.loop.invariant.wrote
