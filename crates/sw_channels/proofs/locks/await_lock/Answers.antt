use Rattle.std.proofs.Common.{Some, arith, ◌∙◌}
use Rattle.sw_core.specs.declared.ask.SessionAsk.TheVariants.{Lock}
use Rattle.sw_channels.proofs.LockWaitsLemmas.{lock-again, lock-over, lock-told, lock-end}
use Rattle.sw_channels.proofs.locks.await_lock.Goals as goal

pub returns-in-Over : goal.returns-in-Over
returns-in-Over g c =
    lock-over g.D.Desk.passes _ _ _ _ c.loop-turn._turn (Lock c.args.sid c.args.key) c.loop-turn.ask c.in-Hold.held
    (Some c.args.limit_ms) c.loop-turn.limit c.loop-turn-test.true c.loop-turn.invariant.same c.loop-turn.invariant.led c.in-Hold.ensures.passes
    c.in-Over.ensures.passes

pub returns-in_default : goal.returns-in_default
returns-in_default g c =
    lock-told g.D.Desk.passes _ _ _ c.loop-turn._turn (Lock c.args.sid c.args.key) c.loop-turn.ask
    (Some c.args.limit_ms) c.loop-turn.limit _ _ c.loop-turn-test.true c.loop-turn.invariant.same c.in_default.not-Hold c.lock_code.ensures
    c.loop-turn.invariant.led c.ask.ensures.passes

pub loop-turn-preserved : goal.loop-turn-preserved
loop-turn-preserved g c = record {
  same = c.in-Hold.ensures.back ∙ c.loop-turn.invariant.same;
  led = lock-again g.D.Desk.passes _ _ _ _ c.loop-turn._turn (Lock c.args.sid c.args.key) c.loop-turn.ask c.in-Hold.held
      (Some c.args.limit_ms) c.loop-turn.limit c.in-Again.left c.loop-turn-test.true c.loop-turn.invariant.same c.loop-turn.invariant.led
      c.in-Hold.ensures.passes c.in-Again.ensures.passes;
}

pub returns : goal.returns
returns g c = lock-end g.D.Desk.passes _ _ c.loop-turn._turn (Lock c.args.sid c.args.key) (Some c.args.limit_ms) c.loop-turn.limit
    (omega arith) c.loop-turn.invariant.led
