use Rattle.std.proofs.Common.{[], true, false, refl, sym, ap, ◌∙◌, subst}
use Rattle.sw_lex.specs.Meaning.{Nodes, path_of}
use Rattle.sw_talk.specs.Trace.{Led}
use Rattle.sw_talk.specs.Talk.{Talks, Expanded, standing, lasts_after}
use Rattle.sw_talk.proofs.TalksLemmas.{talked-units, talked-overrun, written-ends, written-line, lasts-on}
use Rattle.sw_talk.proofs.talker.Talker.message_into.Goals as goal

pub returns-then-text-gt-MESSAGE_BYTES-clause-talked : goal.returns-then-text-gt-MESSAGE_BYTES-clause-talked
returns-then-text-gt-MESSAGE_BYTES-clause-talked g c =
    talked-overrun g.D.Desk.passes _ _ _ c.args.self.now.macros c.args.self.now.macros _ _ _ _ _ c.without_line_feed-text.ensures
    c.if-text-gt-MESSAGE_BYTES.true c.clear.ensures.items (c.lasts.ensures ∙ ap lasts_after c.go_on.ensures) refl c.queue.ensures

pub returns-in-Ends-clause-talked : goal.returns-in-Ends-clause-talked
returns-in-Ends-clause-talked g c =
    let s = c.talk.ensures.talks [] c.clear.ensures.items in
    let led : Led g.D.Desk.passes c.args.desk.now c.talk.new.desk (λ t rest. Talks (Expanded c.args.self.now.sid) c.args.self.now.sid s.0 s.1
    (standing [] c.args.self.now.macros [] t) c.talk.result (standing (path_of c.talk.new.path) c.talk.new.self.macros s.2 rest)) =
    subst (λ (p : Nodes). Led g.D.Desk.passes c.args.desk.now c.talk.new.desk (λ t rest. Talks (Expanded c.args.self.now.sid) c.args.self.now.sid s.0 s.1
    (standing p c.args.self.now.macros [] t) c.talk.result (standing (path_of c.talk.new.path) c.talk.new.self.macros s.2 rest))) c.root-path.ensures s.5 in
    talked-units g.D.Desk.passes _ _ _ c.args.self.now.macros c.talk.new.self.macros _ _ _ s.0 s.1 c.talk.result false (path_of c.talk.new.path) s.2
    c.without_line_feed-text.ensures c.if-text-gt-MESSAGE_BYTES.false s.3 (written-ends _ s.2 _ c.in-Ends.is c.clear-in-Ends.ensures.items)
    (sym (ap lasts_after c.in-Ends.is)) led

pub returns-clause-talked : goal.returns-clause-talked
returns-clause-talked g c =
    let s = c.talk.ensures.talks [] c.clear.ensures.items in
    let led : Led g.D.Desk.passes c.args.desk.now c.talk.new.desk (λ t rest. Talks (Expanded c.args.self.now.sid) c.args.self.now.sid s.0 s.1
    (standing [] c.args.self.now.macros [] t) c.talk.result (standing (path_of c.talk.new.path) c.talk.new.self.macros s.2 rest)) =
    subst (λ (p : Nodes). Led g.D.Desk.passes c.args.desk.now c.talk.new.desk (λ t rest. Talks (Expanded c.args.self.now.sid) c.args.self.now.sid s.0 s.1
    (standing p c.args.self.now.macros [] t) c.talk.result (standing (path_of c.talk.new.path) c.talk.new.self.macros s.2 rest))) c.root-path.ensures s.5 in
    talked-units g.D.Desk.passes _ _ _ c.args.self.now.macros c.talk.new.self.macros _ _ _ s.0 s.1 c.talk.result true (path_of c.talk.new.path) s.2
    c.without_line_feed-text.ensures c.if-text-gt-MESSAGE_BYTES.false s.3 (written-line _ s.2 _ c.in_default.not-Ends s.4)
    (lasts-on _ c.in_default.not-Ends) led
