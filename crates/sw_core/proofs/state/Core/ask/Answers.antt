use Rattle.std.proofs.Common.{◌≡◌, ◌==◌, None, true, false, refl, arith}
use Rattle.sw_core.specs.declared.ask.SessionAnswer.TheVariants.{Worn}
use Rattle.sw_core.specs.Event.{last_number}
use Rattle.sw_core.specs.Seen.{AskSession, SaysSession}
use Rattle.sw_core.specs.Step.{acts_unnumbered}
use Rattle.sw_core.proofs.NumberedLemmas.{worn_step}
use Rattle.sw_core.proofs.state.Core.ask.Goals as goal

pub returns-then-not-session_acts_unnumbered-clause-step : goal.returns-then-not-session_acts_unnumbered-clause-step
returns-then-not-session_acts_unnumbered-clause-step g c =
    let last : (c.args.self.now.seen.events == last_number) ≡ true = grind arith in
    let shut : acts_unnumbered (AskSession c.args.ask) ≡ false = grind arith in
    rw (c.requires, c.hand_back.ensures) (worn_step c.args.self.now.seen (AskSession c.args.ask) (SaysSession (Worn c.args.ask) None) last shut refl)
