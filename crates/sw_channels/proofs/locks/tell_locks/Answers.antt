use Rattle.std.proofs.Common.{refl}
use Rattle.sw_core.specs.declared.ask.SessionAsk.TheVariants.{LockInfo}
use Rattle.sw_talk.specs.Trace.{Asked}
use Rattle.sw_channels.proofs.EngineAsksLemmas.{by-one}
use Rattle.sw_channels.proofs.locks.tell_locks.Goals as goal

pub returns : goal.returns
returns g c = by-one g.D.Desk.passes _ _ _ (Asked (LockInfo c.args.sid) c.ask-answer.result) c.ask-answer.ensures.passes (refl, c.info_reply.ensures)
