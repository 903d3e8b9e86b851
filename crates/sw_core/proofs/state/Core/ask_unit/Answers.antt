use Rattle.std.proofs.Common.{◌≡◌, ◌==◌, None, true, false, refl, arith}
use Rattle.sw_core.specs.declared.ask.SessionAnswer.TheVariants.{Worn}
use Rattle.sw_core.specs.declared.ask.SessionAsk.TheVariants.{Unit}
use Rattle.sw_core.specs.Event.{last_number}
use Rattle.sw_core.specs.Seen.{AskSession, SaysSession}
use Rattle.sw_core.specs.Step.{acts_unnumbered}
use Rattle.sw_core.proofs.NumberedLemmas.{worn_step}
use Rattle.sw_core.proofs.state.Core.ask_unit.Goals as goal

pub returns-then-not-is_abort-clause-step : goal.returns-then-not-is_abort-clause-step
returns-then-not-is_abort-clause-step g c =
    let ask = AskSession (Unit c.args.sid c.args.command c.args.available) in
    let last : (c.args.self.now.seen.events == last_number) ≡ true = grind arith in
    let shut : acts_unnumbered ask ≡ false = grind arith in
    rw (c.requires, c.hand_unit_back.ensures) (worn_step c.args.self.now.seen ask (SaysSession (Worn (Unit c.args.sid c.args.command c.args.available)) None) last shut refl)
