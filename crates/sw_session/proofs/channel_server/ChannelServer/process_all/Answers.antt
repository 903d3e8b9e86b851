use Rattle.std.proofs.Common.{Ok, Some, None, sym, ◌∙◌}
use Rattle.sw_session.specs.declared.after_step.AfterStep.TheVariants.{Goes}
use Rattle.sw_session.proofs.ServeWaysLemmas.{gives-is, serves-is, went-on, heard-smaller, hearing-start, hearing-heard, all-processed, heard-over}
use Rattle.sw_session.proofs.ServerLemmas.{stays-so, stays-on, serves-so}
use Rattle.sw_session.proofs.channel_server.ChannelServer.process_all.Goals as goal

pub loop-heard-init : goal.loop-heard-init
loop-heard-init g c = record { hearing = hearing-start _ _ _; stays = stays-so _ }

pub returns-in-None-clause-processed : goal.returns-in-None-clause-processed
returns-in-None-clause-processed g c =
    all-processed _ _ _ _ _ _ c.loop-heard.invariant.hearing (gives-is _ _ c.next_message.result None c.in-None.is c.next_message.ensures)

pub loop-heard-preserved : goal.loop-heard-preserved
loop-heard-preserved g c = record {
  hearing = rw c.serve-processed.ensures.decoder (hearing-heard _ _ _ _ _ _ _ c.in-Some.heard c.loop-heard.invariant.hearing
      (gives-is _ _ c.next_message.result (Some c.in-Some.heard) c.in-Some.is c.next_message.ensures)
      (serves-is _ c.in-Some.heard _ _ c.serve-processed.result (Ok Goes) (went-on _ (sym c.goes_on.ensures ∙ c.if-not-goes_on.false))
      (serves-so g.D.Desk.passes _ _ c.in-Some.heard _ _ c.serve-processed.result c.loop-heard.invariant.stays c.serve-processed.ensures.served)));
  stays = let on = c.serve-processed.ensures.stays in
      stays-on _ _ _ c.loop-heard.invariant.stays (record { own = on.own; desk = on.desk; writer = on.writer; side = on.side });
}

pub loop-heard-smaller : goal.loop-heard-smaller
loop-heard-smaller g c = rw c.serve-processed.ensures.decoder (heard-smaller _ _ _ _ _ c.in-Some.heard
    (gives-is _ _ c.next_message.result (Some c.in-Some.heard) c.in-Some.is c.next_message.ensures)
    (serves-is _ c.in-Some.heard _ _ c.serve-processed.result (Ok Goes) (went-on _ (sym c.goes_on.ensures ∙ c.if-not-goes_on.false))
    c.serve-processed.ensures.served))

pub returns-then-not-goes_on-clause-processed : goal.returns-then-not-goes_on-clause-processed
returns-then-not-goes_on-clause-processed g c = rw c.serve-processed.ensures.decoder (
    heard-over _ _ _ _ _ _ _ c.in-Some.heard c.serve-processed.result (sym c.goes_on.ensures ∙ c.if-not-goes_on.true) c.loop-heard.invariant.hearing
    (gives-is _ _ c.next_message.result (Some c.in-Some.heard) c.in-Some.is c.next_message.ensures)
    (serves-so g.D.Desk.passes _ _ c.in-Some.heard _ _ c.serve-processed.result c.loop-heard.invariant.stays c.serve-processed.ensures.served))
