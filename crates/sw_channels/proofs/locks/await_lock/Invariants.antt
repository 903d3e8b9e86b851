use Rattle.std.proofs.Common.{◌≡◌, Some}
use Rattle.sw_core.specs.declared.ask.SessionAsk.TheVariants.{Lock}
use Rattle.sw_channels.specs.EngineStep.{LedBy}
use Rattle.sw_channels.proofs.LockWaitsLemmas.{AwaitsBy}
use Rattle.sw_channels.proofs.locks.await_lock.Given as goal

abbrev pub invariant-loop-turn : goal.invariant-loop-turn
invariant-loop-turn g l = record {
  same : l.ask ≡ Lock l.fn.sid l.fn.key;
  led : LedBy g.D.Desk.passes l.fn.desk l.desk (AwaitsBy (Lock l.fn.sid l.fn.key) (Some l.fn.limit_ms) l._turn l.limit);
}
