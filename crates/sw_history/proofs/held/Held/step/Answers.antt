use Rattle.std.specs.Prelude.{◌==◌, ◌&&◌, not}
use Rattle.std.proofs.Common.{rules, ◌≡◌, ℕ, ◌+◌, Bool, true, false, List, ap, sym, ◌∙◌, arith}
use Rattle.sw_core.specs.Event.{last_number}
use Rattle.sw_core.specs.Seen.{AnswerSeen, failed_in}
use Rattle.sw_history.specs.declared.note.Note.{Note}
use Rattle.sw_history.specs.Board.{entry_of}
use Rattle.sw_history.specs.Entries.{HistoryEntry}
use Rattle.sw_history.specs.Held.{Locked, note_of, notes_of, noted}
use Rattle.sw_history.specs.History.{said_at, grown}
use Rattle.sw_history.specs.Shares.{is_event, is_counted, one_if}
use Rattle.sw_history.proofs.AtDesksLemmas.{some_desk}
use Rattle.sw_history.proofs.CountedLemmas.{step_counted, counted_apart}
use Rattle.sw_history.proofs.NotesLemmas.{ring_more, notes_grown}
use Rattle.sw_history.proofs.RestLemmas.{ends_where}
use Rattle.sw_history.proofs.held.Held.step.Goals as goal

pub ask-happened-requires : goal.ask-happened-requires
ask-happened-requires g c = record { desk = some_desk c.part.inside.seat.desk c.part.invariant.1; blank = c.requires }

pub returns-clause-notes : goal.returns-clause-notes
returns-clause-notes g c =
    let said : AnswerSeen = g.E.EventKind.answered c.ask-happened.new.answer c.ask-happened.new.left in
    let e : HistoryEntry = entry_of c.part.inside.seat (said_at c.ask-happened.new.self.panel (g.E.EventKind.asked c.args.ask) said) in
    let here : c.self.inside.core.history ≡ c.args.self.now.history = ap (λ (l : Locked _). l.history) c.self.view_is in
    ap notes_of c.ask-happened.ensures.grown
    ∙ (notes_grown (is_event said) c.self.inside.core.history e
    ∙ ap (λ (es : List HistoryEntry). noted (is_event said) (notes_of es) (note_of e)) here)

pub returns-clause-share : goal.returns-clause-share
returns-clause-share g c =
    let p = c.self.inside.core.panel.events in
    let q = c.ask-happened.new.self.panel.events in
    let b = is_counted p (g.E.EventKind.answered c.ask-happened.new.answer c.ask-happened.new.left) in
    let counted : q ≡ p + one_if b = search (rules, step_counted) in
    let up = counted_apart p q _ _ b c.events-before.ensures c.events-number.ensures counted in
    rw (← c.part.view_is, ← c.self.view_is) (c.count.ensures.share.1 ∙ ap (λ (n : ℕ). c.part.inside.share.amount + n) up)

pub invariant_of-self : goal.invariant_of-self
invariant_of-self g c =
    let i = c.self.invariant in
    let said : AnswerSeen = g.E.EventKind.answered c.ask-happened.new.answer c.ask-happened.new.left in
    let none : is_event said ≡ false = search rules in
    let es = c.self.inside.core.history in
    let e : HistoryEntry = entry_of c.part.inside.seat (said_at c.ask-happened.new.self.panel (g.E.EventKind.asked c.args.ask) said) in
    let same : c.ask-happened.new.self.history ≡ es = c.ask-happened.ensures.grown ∙ ap (λ (b : Bool). grown b es e) none in
    let p = c.self.inside.core.panel.events in
    let q = c.ask-happened.new.self.panel.events in
    let counted : q ≡ p + one_if (is_counted p said) = search (rules, step_counted) in
    let still : q ≡ p + 0 = counted ∙ ap (λ (b : Bool). p + one_if (b && not (p == last_number))) none in
    let good = c.runs_go_on.ensures.good c.self.inside.core.panel c.has_history.ensures.reached in
    let rest = ends_where g.H.Recording.first c.self.inside.core.panel c.ask-happened.new.self.panel
    (failed_in (g.E.EventKind.asked c.args.ask) said c.self.inside.core.panel.cage.cards c.ask-happened.new.self.panel.cage.cards) es
    c.ask-happened.new.self.history c.part.inside.seat c.ask-happened.new.desk (g.E.EventKind.asked c.args.ask) said
    c.self.inside.at_rest c.rests_on-self-inside.result good.good.held i.7 c.rests_on-self-inside.ensures
    c.ask-happened.ensures.step c.ask-happened.ensures.history c.ask-happened.ensures.grown in
    (omega (arith, still, i.0), i.1, i.2, i.3, i.4 ∙ ap notes_of (sym same), i.5, i.6, rest)

pub invariant_of-self-2 : goal.invariant_of-self-2
invariant_of-self-2 g c =
    let i = c.self.invariant in
    let said : AnswerSeen = g.E.EventKind.answered c.ask-happened.new.answer c.ask-happened.new.left in
    let event : is_event said ≡ true = search rules in
    let es = c.self.inside.core.history in
    let e : HistoryEntry = entry_of c.part.inside.seat (said_at c.ask-happened.new.self.panel (g.E.EventKind.asked c.args.ask) said) in
    let more = c.ask-happened.ensures.grown ∙ ap (λ (b : Bool). grown b es e) event in
    let note : Note = record { number = c.events-number.result; ask = c.kind-kind.result } in
    let same : note ≡ note_of e = λ j. record { number = c.events-number.ensures j; ask = c.kind-kind.ensures j } in
    let ring = ring_more c.self.inside.notes c.count.new.notes note es c.ask-happened.new.self.history e i.3 i.4 c.count.ensures.notes same more in
    let p = c.self.inside.core.panel.events in
    let q = c.ask-happened.new.self.panel.events in
    let b = is_counted p said in
    let counted : q ≡ p + one_if b = search (rules, step_counted) in
    let up = counted_apart p q _ _ b c.events-before.ensures c.events-number.ensures counted in
    let good = c.runs_go_on.ensures.good c.self.inside.core.panel c.has_history.ensures.reached in
    let rest = ends_where g.H.Recording.first c.self.inside.core.panel c.ask-happened.new.self.panel
    (failed_in (g.E.EventKind.asked c.args.ask) said c.self.inside.core.panel.cage.cards c.ask-happened.new.self.panel.cage.cards) es
    c.ask-happened.new.self.history c.part.inside.seat c.ask-happened.new.desk (g.E.EventKind.asked c.args.ask) said
    c.self.inside.at_rest c.rests_on-self-inside.result good.good.held i.7 c.rests_on-self-inside.ensures
    c.ask-happened.ensures.step c.ask-happened.ensures.history c.ask-happened.ensures.grown in
    (omega (arith, up, counted, i.0, c.count.ensures.events), i.1, i.2, ring.0, ring.1, i.5, i.6, rest)
