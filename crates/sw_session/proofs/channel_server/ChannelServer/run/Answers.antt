use Rattle.std.proofs.Common.{◌+◌, ◌≤◌, ap, ◌∙◌, refl, rules, Ok, Err, arith}
use Rattle.std.proofs.lemmas.Result.{err_from_is_err_and}
use Rattle.sw_hislip.specs.Pending.{nothing_fed}
use Rattle.sw_session.specs.declared.turns.Next.TheVariants.{On, Over}
use Rattle.sw_session.proofs.HeardLemmas.{going_nothing, going_heard}
use Rattle.sw_session.proofs.ServeWaysLemmas.{turn-is}
use Rattle.sw_session.proofs.ServeTurnsLemmas.{going-start, going-on, runs-over, runs-fault, runs-bound}
use Rattle.sw_session.proofs.ServerLemmas.{stays-so, stays-on, turn-so}
use Rattle.sw_session.proofs.channel_server.ChannelServer.run.Goals as goal
use Rattle.sw_session.proofs.channel_server.ChannelServer.run.Goals.{then-room-gt0+in_ok-take_heard+in_default, else-room-gt0}

pub loop-turn-init : goal.loop-turn-init
loop-turn-init g c =
    elim c.if-room-gt0.branch [
      | then-room-gt0+in_ok-take_heard+in_default w ↦ rw w.self-is (
        0 + 1,
        omega (arith),
        going_heard _ _ _ _ (turn-is _ _ _ _ _ w.take_heard.result (Ok On) (w.in_ok-take_heard.was ∙ ap Ok w.in_default.is)
            (w.take_heard.ensures.turn _ _)),
        w.take_heard.ensures.stays,
      )
      | else-room-gt0 w ↦ rw w.self-is (
        0,
        omega (arith),
        going_nothing _ _ _ _ _ c.args.self.now.decoder.now.room c.requires c.room.ensures.lean.held
            (let e = c.room.ensures.room in omega (arith, w.if-room-gt0.false, e)),
        stays-so _,
      )
    ]

pub loop-turn-preserved : goal.loop-turn-preserved
loop-turn-preserved g c =
    let i = c.loop-turn.invariant in (
      i.0 + 1,
      omega (arith, i.1),
      going-on _ _ _ _ _ _ _ i.0 i.2 (turn-so g.D.Desk.passes _ _ _ _ _ _ _ i.3
          (turn-is _ _ _ _ _ c.take_turn.result (Ok On) (c.in_ok-take_turn.was ∙ ap Ok c.in_default-2.is) c.take_turn.ensures.turn)),
      stays-on _ _ _ i.3 c.take_turn.ensures.stays,
    )

pub returns-in-Over-clause-runs : goal.returns-in-Over-clause-runs
returns-in-Over-clause-runs g c =
    runs-over _ _ 0 nothing_fed _ _ _ _ c.every_message_comes_out.ensures c.nothing_whole_is_left.ensures (going-start _ nothing_fed _ refl)
    (turn-is _ _ _ _ _ c.take_heard.result (Ok Over) (c.in_ok-take_heard.was ∙ ap Ok c.in-Over.is) (c.take_heard.ensures.turn _ _))

pub returns-in-Over-2-clause-runs : goal.returns-in-Over-2-clause-runs
returns-in-Over-2-clause-runs g c =
    let i = c.loop-turn.invariant in
    runs-over _ _ _ _ _ _ _ _ c.every_message_comes_out.ensures c.nothing_whole_is_left.ensures i.2 (turn-so g.D.Desk.passes _ _ _ _ _ _ _ i.3
    (turn-is _ _ _ _ _ c.take_turn.result (Ok Over) (c.in_ok-take_turn.was ∙ ap Ok c.in-Over-2.is) c.take_turn.ensures.turn))

pub returns-in_err-take_heard-clause-runs : goal.returns-in_err-take_heard-clause-runs
returns-in_err-take_heard-clause-runs g c =
    let p = err_from_is_err_and c.from_residual.result c.from_residual.ensures.1 in rw (p.1, p.2)
    (runs-fault _ _ 0 nothing_fed _ _ _ _ c.in_err-take_heard.field-0.0 c.every_message_comes_out.ensures c.nothing_whole_is_left.ensures
    (going-start _ nothing_fed _ refl)
    (turn-is _ _ _ _ _ c.take_heard.result (Err c.in_err-take_heard.field-0.0) c.in_err-take_heard.was (c.take_heard.ensures.turn _ _)))

pub returns-in_err-take_turn-clause-runs : goal.returns-in_err-take_turn-clause-runs
returns-in_err-take_turn-clause-runs g c =
    let p = err_from_is_err_and c.from_residual-in_err-take_turn.result c.from_residual-in_err-take_turn.ensures.1 in
    let i = c.loop-turn.invariant in rw (p.1, p.2)
    (runs-fault _ _ _ _ _ _ _ _ c.in_err-take_turn.field-0.0 c.every_message_comes_out.ensures c.nothing_whole_is_left.ensures i.2
    (turn-so g.D.Desk.passes _ _ _ _ _ _ _ i.3
    (turn-is _ _ _ _ _ c.take_turn.result (Err c.in_err-take_turn.field-0.0) c.in_err-take_turn.was c.take_turn.ensures.turn)))

pub returns-clause-runs : goal.returns-clause-runs
returns-clause-runs g c =
    let i = c.loop-turn.invariant in
    let all : c.args.turns ≤ c.loop-turn._turn = search rules in
    runs-bound _ _ _ _ _ _ c.every_message_comes_out.ensures c.nothing_whole_is_left.ensures i.2 (omega (arith, i.1, all))
