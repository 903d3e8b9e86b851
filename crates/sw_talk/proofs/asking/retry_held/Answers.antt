use Rattle.std.proofs.Common.{◌≡◌, ◌∷◌, sym, ◌∙◌, subst}
use Rattle.sw_core.specs.declared.ask.SessionAsk.{SessionAsk}
use Rattle.sw_core.specs.declared.ask.SessionAnswer.{SessionAnswer}
use Rattle.sw_core.specs.declared.ask.SessionAnswer.TheVariants.{Hold}
use Rattle.sw_talk.specs.Trace.{Led, Asked}
use Rattle.sw_talk.specs.Talk.{Settles}
use Rattle.sw_talk.proofs.asking.retry_held.Goals as goal

pub returns-in-Hold : goal.returns-in-Hold
returns-in-Hold g c = λ ask is.
    let e : Hold c.in-Hold.held ≡ Hold ask = sym c.in-Hold.is ∙ c.replace.ensures.value ∙ is in
    let same : c.in-Hold.held ≡ ask = cc in
    let waited = subst (λ (x : SessionAsk). Led g.D.Desk.passes c.args.desk.now c.retry_until_free.new.desk (λ t rest.
    Settles c.args.sid 0 x (Asked x (Hold x) ∷ t) c.retry_until_free.result rest)) same c.retry_until_free.ensures in
    subst (λ (a : SessionAnswer). Led g.D.Desk.passes c.args.desk.now c.retry_until_free.new.desk (λ t rest.
    Settles c.args.sid 0 ask (Asked ask (Hold ask) ∷ t) a rest)) (sym c.put.ensures) waited

pub returns-in_default : goal.returns-in_default
returns-in_default g c = λ ask is. absurd (c.in_default.not-Hold ask (c.replace.ensures.value ∙ is))
