use Rattle.std.proofs.Common.{length, sym, ◌∙◌, ap, arith}
use Rattle.sw_core.specs.Sessions.{SessionsSeen}
use Rattle.sw_core.proofs.SeatingLemmas.{lacking_number}
use Rattle.sw_core.proofs.sessions.Sessions.attach.Goals as goal

pub returns-then-number-lt1-clause-none : goal.returns-then-number-lt1-clause-none
returns-then-number-lt1-clause-none c h =
    let b = lacking_number c.args.self.now c.args.number (sym (ap (λ (s : SessionsSeen). length s.seats) c.self.view_is) ∙ c.self.invariant) h in
    omega (arith, b.0, c.if-number-lt1.true)

pub returns-then-number-gt-SESSIONS-clause-none : goal.returns-then-number-gt-SESSIONS-clause-none
returns-then-number-gt-SESSIONS-clause-none c h =
    let b = lacking_number c.args.self.now c.args.number (sym (ap (λ (s : SessionsSeen). length s.seats) c.self.view_is) ∙ c.self.invariant) h in
    omega (arith, b.1, c.if-number-gt-SESSIONS.true)
