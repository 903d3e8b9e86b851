use Rattle.std.proofs.Common.{subst}
use Rattle.sw_core.specs.declared.ask.Answer.{Answer}
use Rattle.sw_core.specs.Seen.{AskEject, AskInstall, SaysEjected, answer_seen, failed_in}
use Rattle.sw_workers.proofs.AbortedLemmas.{slot_out, slot_back}
use Rattle.sw_workers.proofs.EjectedLemmas.{not_ejected}
use Rattle.sw_workers.proofs.OpenedLemmas.{OutOf, step_out, step_in, reopens, reopens_none}
use Rattle.sw_workers.proofs.opening_relays.open_slot.Goals as goal

pub returns-in-Ejected-clause-reopens : goal.returns-in-Ejected-clause-reopens
returns-in-Ejected-clause-reopens g c =
    let p = c.args.held.now.panel in
    let m = c.ask.new.self.panel in
    let q = c.ask-in-Ejected.new.self.panel in
    let good = c.runs_go_on.ensures.good p c.has_history.ensures.reached in
    let out = step_out p c.args.slot (failed_in (AskEject c.args.slot) (answer_seen c.ask.result) p.cage.cards m.cage.cards) (answer_seen c.ask.result) m good c.ask.ensures.step in
    let card = c.in-Ejected.card.1 in
    let said : OutOf p c.args.slot (SaysEjected card) m = subst (λ (x : Answer _ _). OutOf p c.args.slot (answer_seen x) m) c.in-Ejected.is out.0 in
    let into = step_in m c.args.slot card (failed_in (AskInstall c.args.slot card) (answer_seen c.ask-in-Ejected.result) m.cage.cards q.cage.cards)
    (answer_seen c.ask-in-Ejected.result) q c.ask-in-Ejected.ensures.step in
    reopens p m q c.args.slot card good c.requires.0 c.requires.1 said out.1 into.0 into.1

pub returns-in-Ejected-clause-entries : goal.returns-in-Ejected-clause-entries
returns-in-Ejected-clause-entries g c =
    let start = g.H.Recording.first in
    let p = c.args.held.now.panel in
    let m = c.ask.new.self.panel in
    let q = c.ask-in-Ejected.new.self.panel in
    let card = c.in-Ejected.card.1 in
    let out = slot_out start p m c.args.slot (failed_in (AskEject c.args.slot) (answer_seen c.ask.result) p.cage.cards m.cage.cards) (answer_seen c.ask.result)
    c.args.held.now.history c.ask.new.self.history c.args.part.now.seat c.ask.new.part.seat c.ask.ensures.step c.ask.ensures.asked c.ask.ensures.history in
    slot_back start p m q c.args.slot card (answer_seen c.ask-in-Ejected.result) c.args.held.now.history c.ask.new.self.history c.ask-in-Ejected.new.self.history
    c.ask.new.part.seat c.ask-in-Ejected.new.part.seat out c.ask-in-Ejected.ensures.asked c.ask-in-Ejected.ensures.history

pub returns-in-Ejected-clause-joined : goal.returns-in-Ejected-clause-joined
returns-in-Ejected-clause-joined g c = λ sid is.
    let p = c.args.held.now.panel in
    let m = c.ask.new.self.panel in
    let q = c.ask-in-Ejected.new.self.panel in
    let mid = c.sessions_stay.ensures.stays p m (AskEject c.args.slot) _ (answer_seen c.ask.result) sid c.ask.ensures.step is (λ e. cc (e)) in
    c.sessions_stay.ensures.stays m q (AskInstall c.args.slot c.in-Ejected.card.1) _ (answer_seen c.ask-in-Ejected.result) sid c.ask-in-Ejected.ensures.step mid
    (λ e. cc (e))

pub returns-in_default : goal.returns-in_default
returns-in_default g c =
    let p = c.args.held.now.panel in
    let m = c.ask.new.self.panel in
    let good = c.runs_go_on.ensures.good p c.has_history.ensures.reached in
    let out = step_out p c.args.slot (failed_in (AskEject c.args.slot) (answer_seen c.ask.result) p.cage.cards m.cage.cards) (answer_seen c.ask.result) m good c.ask.ensures.step in
    record {
      entries = slot_out g.H.Recording.first p m c.args.slot (failed_in (AskEject c.args.slot) (answer_seen c.ask.result) p.cage.cards m.cage.cards)
          (answer_seen c.ask.result) c.args.held.now.history c.ask.new.self.history c.args.part.now.seat c.ask.new.part.seat c.ask.ensures.step
          c.ask.ensures.asked c.ask.ensures.history;
      reopens = reopens_none p m c.args.slot (answer_seen c.ask.result) out.0 (not_ejected c.ask.result c.in_default.not-Ejected) out.1;
      seen = c.ask.ensures.seen.1;
      joined = λ sid is. c.sessions_stay.ensures.stays p m (AskEject c.args.slot) _ (answer_seen c.ask.result) sid c.ask.ensures.step is (λ e. cc (e));
    }
