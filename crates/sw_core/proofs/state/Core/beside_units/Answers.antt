use Rattle.std.proofs.Common.{◌≡◌, ◌&&◌, not, Option, sym, ◌∙◌, subst, ap}
use Rattle.sw_hislip.specs.LockTable.{admits}
use Rattle.sw_cage.specs.Change.{any_failed}
use Rattle.sw_core.specs.declared.ask.Sid.{Sid}
use Rattle.sw_core.specs.Panel.{Panel}
use Rattle.sw_core.specs.Seats.{is_dropped, is_shut_out}
use Rattle.sw_core.specs.Sessions.{SessionsSeen, IsJoined, is_clearing}
use Rattle.sw_core.specs.Seen.{work_seen}
use Rattle.sw_core.specs.Step.{StepSession}
use Rattle.sw_core.proofs.CardsLemmas.{seen_is}
use Rattle.sw_core.proofs.AnsweredLemmas.{admitted}
use Rattle.sw_core.proofs.state.Core.beside_units.Goals as goal

pub returns-clause-step : goal.returns-clause-step
returns-clause-step g c =
    let p = c.args.self.now.seen in
    let sid = c.in-Some.sid in
    let f = any_failed p.cage.cards c.joined.new.self.seen.cage.cards in
    let sessions : c.self.inside.sessions ≡ p.sessions = ap (λ (x : Panel). x.sessions) (seen_is c.self.view_is) in
    let joined : IsJoined p.sessions sid = subst (λ (s : SessionsSeen). IsJoined s sid) sessions (c.has.ensures.0 c.if-not-has.false) in
    let heard = ap (λ (s : SessionsSeen). is_clearing s sid.number && is_dropped c.args.ask) (sym sessions) ∙ sym c.drops.ensures ∙ c.if-drops.false in
    let let_in = ap (λ (s : SessionsSeen). not (admits s.locks sid.number) && is_shut_out c.args.ask) (sym sessions) ∙ sym c.shuts_out.ensures
    ∙ c.if-shuts_out.false in
    subst (λ (o : Option Sid). StepSession o p c.args.ask f c.joined.new.answer (work_seen c.joined.new.work) c.joined.new.self.seen) (sym c.in-Some.is
    ∙ c.asker.ensures)
    (admitted p sid c.args.ask f c.joined.new.answer (work_seen c.joined.new.work) c.joined.new.self.seen joined heard let_in c.joined.ensures.step)
