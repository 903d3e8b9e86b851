use Rattle.std.proofs.Common.{subst}
use Rattle.sw_core.specs.declared.ask.SessionAnswer.{SessionAnswer}
use Rattle.sw_core.specs.declared.ask.SessionAsk.TheVariants.{Unit}
use Rattle.sw_talk.specs.Trace.{Asked, HandsBackAsk}
use Rattle.sw_talk.proofs.TalksLemmas.{settle-held, settle-first}
use Rattle.sw_talk.proofs.asking.settle_unit.Goals as goal

pub returns-in-Hold : goal.returns-in-Hold
returns-in-Hold g c =
    let passes = g.D.Desk.passes in
    let ask = Unit c.args.sid c.args.command c.args.answered in
    let back = subst (λ (x : SessionAnswer). HandsBackAsk ask x) c.in-Hold.is c.ask_unit.ensures.back in
    let passed = subst (λ (x : SessionAnswer). passes c.args.desk.now (Asked ask x) c.ask_unit.new.self) c.in-Hold.is c.ask_unit.ensures.passes in
    settle-held passes _ _ _ c.args.sid ask _ _ back passed (c.retry_held.ensures _ c.in-Hold.is)

pub returns-in_default : goal.returns-in_default
returns-in_default g c =
    settle-first g.D.Desk.passes _ _ c.args.sid (Unit c.args.sid c.args.command c.args.answered) _ c.in_default.not-Hold c.ask_unit.ensures.passes
