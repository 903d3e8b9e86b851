use Rattle.std.proofs.Common.{rules, ◌≡◌, Bool, true, false, List, [], ◌∷◌, ◌++◌, sym, ap, subst, ◌∙◌}
use Rattle.sw_core.specs.Opening.{IsReached}
use Rattle.sw_core.specs.Panel.{Panel}
use Rattle.sw_core.specs.Run.{Event, IsNextEvent}
use Rattle.sw_core.specs.Seen.{failed_in}
use Rattle.sw_history.specs.Board.{Said, entry_of}
use Rattle.sw_history.specs.Entries.{HistoryEntry}
use Rattle.sw_history.specs.History.{InHistory, IsHistory, AsksInHistory, event, said_at, grown}
use Rattle.sw_history.specs.Shares.{is_event}
use Rattle.sw_history.proofs.RecordingsLemmas.{Leads, history_event, SawEvent, asks_event, SawNone, asks_nothing, next_fits}
use Rattle.sw_history.proofs.UnmovedLemmas.{step_unmoved}
use Rattle.sw_history.proofs.recorded.Recorded.ask.Goals as goal

pub invariant_of-self : goal.invariant_of-self
invariant_of-self g c =
    let i = c.self.invariant in
    let told = c.is_event.ensures c.make.new.left in
    let asked = g.E.EventKind.asked c.args.ask in
    let answered = g.E.EventKind.answered c.make.new.answer c.make.new.left in
    let quiet : is_event answered ≡ false = search (rules, told) in
    let p = c.self.inside.core.seen in
    let q = c.make.new.core.seen in
    let same = step_unmoved p asked (failed_in asked answered p.cage.cards q.cage.cards) answered q c.make.ensures.step quiet in
    let first = g.B.Recording.first in
    let there = subst (λ (x : Panel). IsHistory first c.self.inside.pass x) (sym same) i.0 in (
      subst (λ (es : List HistoryEntry). IsHistory first es c.make.new.core.seen) (sym c.tell.ensures.history) there,
      subst IsReached (sym same) i.1,
      i.2,
      i.3,
      c.all_came.ensures c.self.inside.core.cards c.make.new.core.cards c.args.ask c.make.new.answer c.make.new.left
          c.make.ensures.cards c.make.ensures.came i.4,
    )

pub returns-then-not-is_event-clause-history : goal.returns-then-not-is_event-clause-history
returns-then-not-is_event-clause-history g c =
    let i = c.self.invariant in
    let told = c.is_event.ensures c.make.new.left in
    let asked = g.E.EventKind.asked c.args.ask in
    let answered = g.E.EventKind.answered c.make.new.answer c.make.new.left in
    let quiet : is_event answered ≡ false = search (rules, told) in
    let first = g.B.Recording.first in
    let p = c.self.inside.core.seen in
    let q = c.make.new.core.seen in
    let same = step_unmoved p asked (failed_in asked answered p.cage.cards q.cage.cards) answered q c.make.ensures.step quiet in
    let t = c.tell.ensures in
    let saw : SawNone c.self.inside.pass c.args.desk.now c.tell.new.desk = record {
      later = t.seen.0;
      seen = t.seen.1 ∙ t.history;
      desk = t.same.0;
      mine = t.same.1;
      own = t.own;
    } in
    let next : IsNextEvent p (record { ask = asked; answer = answered; panel = q }) = record {
      own = c.make.ensures.own;
      step = c.make.ensures.step;
    } in
    subst (λ (x : Panel). AsksInHistory first x c.args.desk.now (event asked answered q) c.tell.new.desk) (ap (λ (l : InHistory _). l.panel) c.self.view_is)
    (asks_nothing first c.self.inside.pass p c.args.desk.now asked answered q c.tell.new.desk i.0 next same quiet saw)

pub returns-then-not-is_event-clause-grown : goal.returns-then-not-is_event-clause-grown
returns-then-not-is_event-clause-grown g c =
    let told = c.is_event.ensures c.make.new.left in
    let answered = g.E.EventKind.answered c.make.new.answer c.make.new.left in
    let quiet : is_event answered ≡ false = search (rules, told) in
    let e : HistoryEntry = entry_of c.args.desk.now (said_at c.make.new.core.seen (g.E.EventKind.asked c.args.ask) answered) in
    let here : c.self.inside.pass ≡ c.args.self.now.history = ap (λ (l : InHistory _). l.history) c.self.view_is in
    c.tell.ensures.history ∙ (here ∙ ap (λ (b : Bool). grown b c.args.self.now.history e) (sym quiet))

pub tell_event-requires-clause-fits : goal.tell_event-requires-clause-fits
tell_event-requires-clause-fits g c =
    let p = c.self.inside.core.seen in
    let e : Event = record {
      ask = g.E.EventKind.asked c.args.ask;
      answer = g.E.EventKind.answered c.make.new.answer c.make.new.left;
      panel = c.make.new.core.seen;
    } in
    let next : IsNextEvent p e = record { own = c.make.ensures.own; step = c.make.ensures.step } in
    next_fits c.runs_go_on.ensures p e c.pair.result.1 c.self.invariant.1 next c.pair.ensures.requests

pub invariant_of-self-2 : goal.invariant_of-self-2
invariant_of-self-2 g c =
    let i = c.self.invariant in
    let told = c.is_event.ensures c.make.new.left in
    let event : is_event (g.E.EventKind.answered c.make.new.answer c.make.new.left) ≡ true = search (rules, told) in
    let asked = g.E.EventKind.asked c.args.ask in
    let answered = g.E.EventKind.answered c.make.new.answer c.make.new.left in
    let q = c.make.new.core.seen in
    let said : Said = record {
      number = c.events.result;
      ask = g.E.EventKind.asked c.of-asked.result.value;
      answer = g.E.EventKind.answered c.of.result.value c.of-2.result.value;
      pair = c.pair.result;
    } in
    let same : said ≡ said_at q asked answered = λ j. record {
      number = c.events.ensures j;
      ask = g.E.EventKind.asked (c.of-asked.ensures j);
      answer = g.E.EventKind.answered (c.of.ensures j) (c.of-2.ensures j);
      pair = (c.pair.ensures.byte j, c.pair.ensures.requests j);
    } in
    let next : IsNextEvent c.self.inside.core.seen (record { ask = asked; answer = answered; panel = q }) = record {
      own = c.make.ensures.own;
      step = c.make.ensures.step;
    } in
    let leads : Leads c.self.inside.core.seen asked answered q = record { next = next; event = event } in
    let grown = history_event g.B.Recording.first c.self.inside.pass c.self.inside.core.seen c.args.desk.now said asked answered q i.0 leads same in (
      subst (λ (es : List HistoryEntry). IsHistory g.B.Recording.first es q) (sym c.tell_event.ensures.history) grown,
      c.runs_go_on.ensures.next c.self.inside.core.seen (record { ask = asked; answer = answered; panel = q }) i.1 next,
      i.2,
      i.3,
      c.all_came.ensures c.self.inside.core.cards c.make.new.core.cards c.args.ask c.make.new.answer c.make.new.left
          c.make.ensures.cards c.make.ensures.came i.4,
    )

pub returns-clause-history : goal.returns-clause-history
returns-clause-history g c =
    let i = c.self.invariant in
    let told = c.is_event.ensures c.make.new.left in
    let is : is_event (g.E.EventKind.answered c.make.new.answer c.make.new.left) ≡ true = search (rules, told) in
    let asked = g.E.EventKind.asked c.args.ask in
    let answered = g.E.EventKind.answered c.make.new.answer c.make.new.left in
    let q = c.make.new.core.seen in
    let said : Said = record {
      number = c.events.result;
      ask = g.E.EventKind.asked c.of-asked.result.value;
      answer = g.E.EventKind.answered c.of.result.value c.of-2.result.value;
      pair = c.pair.result;
    } in
    let same : said ≡ said_at q asked answered = λ j. record {
      number = c.events.ensures j;
      ask = g.E.EventKind.asked (c.of-asked.ensures j);
      answer = g.E.EventKind.answered (c.of.ensures j) (c.of-2.ensures j);
      pair = (c.pair.ensures.byte j, c.pair.ensures.requests j);
    } in
    let next : IsNextEvent c.self.inside.core.seen (record { ask = asked; answer = answered; panel = q }) = record {
      own = c.make.ensures.own;
      step = c.make.ensures.step;
    } in
    let leads : Leads c.self.inside.core.seen asked answered q = record { next = next; event = is } in
    let t = c.tell_event.ensures in
    let saw : SawEvent c.self.inside.pass c.args.desk.now said c.tell_event.new.desk = record {
      later = t.seen.0;
      seen = t.seen.1 ∙ t.history;
      desk = t.mine.0;
      mine = t.mine.1;
      own = t.own;
    } in
    let d = c.requires.desk in
    subst (λ (x : Panel). AsksInHistory g.B.Recording.first x c.args.desk.now (event asked answered q) c.tell_event.new.desk)
    (ap (λ (l : InHistory _). l.panel) c.self.view_is)
    (asks_event g.B.Recording.first c.self.inside.pass c.self.inside.core.seen c.args.desk.now said asked answered q c.tell_event.new.desk d.0 i.0 leads same d.1
    saw)

pub returns-clause-grown : goal.returns-clause-grown
returns-clause-grown g c =
    let told = c.is_event.ensures c.make.new.left in
    let asked = g.E.EventKind.asked c.args.ask in
    let answered = g.E.EventKind.answered c.make.new.answer c.make.new.left in
    let is : is_event answered ≡ true = search (rules, told) in
    let q = c.make.new.core.seen in
    let said : Said = record {
      number = c.events.result;
      ask = g.E.EventKind.asked c.of-asked.result.value;
      answer = g.E.EventKind.answered c.of.result.value c.of-2.result.value;
      pair = c.pair.result;
    } in
    let same : said ≡ said_at q asked answered = λ j. record {
      number = c.events.ensures j;
      ask = g.E.EventKind.asked (c.of-asked.ensures j);
      answer = g.E.EventKind.answered (c.of.ensures j) (c.of-2.ensures j);
      pair = (c.pair.ensures.byte j, c.pair.ensures.requests j);
    } in
    let e : HistoryEntry = entry_of c.args.desk.now (said_at q asked answered) in
    let here : c.self.inside.pass ≡ c.args.self.now.history = ap (λ (l : InHistory _). l.history) c.self.view_is in
    c.tell_event.ensures.history
    ∙ (ap (λ (s : Said). c.self.inside.pass ++ entry_of c.args.desk.now s ∷ []) same
    ∙ (ap (λ (es : List HistoryEntry). es ++ e ∷ []) here
    ∙ ap (λ (b : Bool). grown b c.args.self.now.history e) (sym is)))
