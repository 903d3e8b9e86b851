use Rattle.std.proofs.Common.{sym, ap, ◌∙◌, subst}
use Rattle.sw_core.specs.Cards.{Keeps}
use Rattle.sw_core.specs.declared.ask.Answer.{Answer}
use Rattle.sw_core.specs.declared.ask.Ask.TheVariants as Ask
use Rattle.sw_core.specs.Seen.{AskEject, answer_seen, failed_in}
use Rattle.sw_workers.proofs.EjectedLemmas.{ejected, Leaves, step_ejects, not_ejected, meter_comes_out, no_meter_comes_out}
use Rattle.sw_workers.proofs.closing.take_out.Goals as goal

pub returns-in-Ejected : goal.returns-in-Ejected
returns-in-Ejected g c =
    let p = c.args.held.now.panel in
    let q = c.ask.new.self.panel in
    let ask = AskEject c.args.slot in
    let answer = answer_seen c.ask.result in
    let good = c.runs_go_on.ensures.good p c.has_history.ensures.reached in
    let failed = failed_in ask answer p.cage.cards q.cage.cards in
    let l : Leaves p.cage c.args.slot answer q.cage = step_ejects p c.args.slot failed answer q c.requires good c.ask.ensures.step in
    let given = ap (λ (x : Answer _ _). ejected (answer_seen x)) c.in-Ejected.is in
    let out = meter_comes_out c.args.held.now.cards c.ask.new.self.cards p.cage c.args.slot c.in-Ejected.card c.has_history.ensures.accounts
    (sym given ∙ l.card) (subst (λ (x : Answer _ _). Keeps c.args.held.now.cards (Ask.Eject c.args.slot) x c.ask.new.self.cards) c.in-Ejected.is
    c.ask.ensures.cards) in
    record {
      card = sym given ∙ l.card;
      others = l.others;
      meter = out.very;
      meters = out.others;
      joined = λ sid is. c.sessions_stay.ensures.stays p q ask failed answer sid c.ask.ensures.step is (λ e. cc (e));
    }

pub returns-in_default : goal.returns-in_default
returns-in_default g c =
    let p = c.args.held.now.panel in
    let q = c.ask.new.self.panel in
    let ask = AskEject c.args.slot in
    let answer = answer_seen c.ask.result in
    let good = c.runs_go_on.ensures.good p c.has_history.ensures.reached in
    let failed = failed_in ask answer p.cage.cards q.cage.cards in
    let l : Leaves p.cage c.args.slot answer q.cage = step_ejects p c.args.slot failed answer q c.requires good c.ask.ensures.step in
    let none = not_ejected c.ask.result c.in_default.not-Ejected in
    let out = no_meter_comes_out c.args.held.now.cards c.ask.new.self.cards p.cage c.args.slot c.ask.result c.requires c.has_history.ensures.accounts
    c.in_default.not-Ejected (sym none ∙ l.card) c.ask.ensures.cards in
    record {
      card = sym none ∙ l.card;
      others = l.others;
      meter = out.very;
      meters = out.others;
      joined = λ sid is. c.sessions_stay.ensures.stays p q ask failed answer sid c.ask.ensures.step is (λ e. cc (e));
    }
