use Rattle.std.proofs.Common.{arith, refl, ◌∙◌, inl, inr}
use Rattle.sw_talk.specs.declared.desk.Wake.TheVariants.{Over}
use Rattle.sw_talk.proofs.TalksLemmas.{settle-start, settle-again, settle-told, settle-end}
use Rattle.sw_talk.proofs.asking.retry_until_free.Goals.{then-not-holds+in-Hold, else-not-holds}
use Rattle.sw_talk.proofs.asking.retry_until_free.Goals as goal

pub loop-turn-init : goal.loop-turn-init
loop-turn-init g c = record { same = refl; led = settle-start g.D.Desk.passes _ c.args.sid c.args.held }

pub returns-in-Over : goal.returns-in-Over
returns-in-Over g c =
    settle-end g.D.Desk.passes _ _ _ _ c.args.sid c.loop-turn._turn c.args.held Over _ (inl refl) c.loop-turn.invariant.led c.in-Over.ensures.passes
    c.queue.ensures

pub returns-in_default-ask : goal.returns-in_default-ask
returns-in_default-ask g c =
    settle-told g.D.Desk.passes _ _ _ _ c.args.sid c.loop-turn._turn c.args.held c.loop-turn.ask _ _ (omega arith) c.loop-turn.invariant.same
    c.in_default-ask.not-Hold c.loop-turn.invariant.led c.in_default.ensures.passes c.ask.ensures.passes

pub loop-turn-preserved : goal.loop-turn-preserved
loop-turn-preserved g c =
    elim c.if-not-holds.branch [
      | then-not-holds+in-Hold w ↦ record {
        same = w.ask-is ∙ w.in-Hold.ensures.back ∙ c.loop-turn.invariant.same;
        led = rw w.desk-is (settle-again g.D.Desk.passes _ _ _ _ c.args.sid c.loop-turn._turn c.args.held c.loop-turn.ask w.in-Hold.back _ (omega arith)
            c.loop-turn.invariant.same (w.in-Hold.ensures.back ∙ c.loop-turn.invariant.same) c.loop-turn.invariant.led c.in_default.ensures.passes
            w.in-Hold.ensures.passes);
      }
      | else-not-holds w ↦ record {
        same = w.ask-is ∙ c.loop-turn.invariant.same;
        led = rw w.desk-is (settle-again g.D.Desk.passes _ _ _ _ c.args.sid c.loop-turn._turn c.args.held c.loop-turn.ask c.loop-turn.ask _ (omega arith)
            c.loop-turn.invariant.same c.loop-turn.invariant.same c.loop-turn.invariant.led c.in_default.ensures.passes
            (c.holds.ensures w.if-not-holds.false));
      }
    ]

pub returns : goal.returns
returns g c =
    settle-end g.D.Desk.passes _ _ _ _ c.args.sid c.loop-turn._turn c.args.held _ _ (inr (omega arith)) c.loop-turn.invariant.led c.wait-2.ensures.passes
    c.queue-2.ensures
