use Rattle.std.proofs.Common.{◌≡◌, subst, ap, arith}
use Rattle.sw_cage.specs.Change.{any_failed}
use Rattle.sw_core.specs.Panel.{Panel}
use Rattle.sw_core.specs.Sessions.{SessionsSeen, IsJoined}
use Rattle.sw_core.specs.Seen.{work_seen}
use Rattle.sw_core.specs.declared.ask.SessionAsk.TheVariants as Ask
use Rattle.sw_core.proofs.CardsLemmas.{seen_is}
use Rattle.sw_core.proofs.AnsweredLemmas.{admitted}
use Rattle.sw_core.proofs.state.Core.unit.Goals as goal

pub returns-clause-step : goal.returns-clause-step
returns-clause-step g c =
    let p = c.args.self.now.seen in
    let sid = c.args.sid in
    let ask = Ask.Unit sid c.args.command c.args.available in
    let f = any_failed p.cage.cards c.command.new.self.seen.cage.cards in
    let sessions : c.self.inside.sessions ≡ p.sessions = ap (λ (x : Panel). x.sessions) (seen_is c.self.view_is) in
    let joined : IsJoined p.sessions sid = subst (λ (s : SessionsSeen). IsJoined s sid) sessions (c.has.ensures.0 c.if-not-has.false) in
    rw c.put.ensures
    (admitted p sid ask f c.command.result (work_seen c.command.new.work) c.command.new.self.seen joined (grind arith) (grind arith) (c.command.ensures.step ask))
