use Rattle.std.proofs.Common.{◌≡◌, ◌<◌, ◌∙◌, Bool, true, false, ℕ, List, [], ◌++◌, length, refl, sym, ap, subst, inl, inr, rules, arith, eqb-true, vec_len}
use Rattle.std.proofs.lemmas.Bool.{eqb-false}
use Rattle.sw_talk.specs.CoreDesk.{WaitsOut}
use Rattle.sw_session.specs.ServeWrite.{WritesPart}
use Rattle.sw_talk.specs.Talk.{state}
use Rattle.mainframe.specs.declared.fault.RunFault.TheVariants.{Input, Output}
use Rattle.mainframe.specs.Turns.{Gathers, stand}
use Rattle.mainframe.proofs.KeptLemmas.{kept-none}
use Rattle.mainframe.proofs.TurnLemmas.{gathers-none, keeps-same, at-fault}
use Rattle.mainframe.proofs.RunsLemmas.{line_rested, cuts-none, cuts-line}
use Rattle.mainframe.proofs.StandLemmas.{further-asked, handed-none, at-hand, reading-end, reading-all, reading-cut, asks-none, asks-written}
use Rattle.mainframe.proofs.StandLemmas.{stops-behind, same-fault, fails-write, stopped-asks, asks-at}
use Rattle.mainframe.proofs.run.answer_all.Goals as goal

pub loop-answering-init : goal.loop-answering-init
loop-answering-init g c = record {
  sid = refl;
  in_turn = record {
    lines = [];
    turns = ap (λ (l : List ℕ). stand (state c.args.desk.now c.args.answering.now.talker.macros) c.args.source.now c.args.writer.now l c.args.answering.now.turns)
        c.requires;
  };
}

-- the lines at hand are not answered up to their end
pub returns-in_err-answer_at_hand-clause-err : goal.returns-in_err-answer_at_hand-clause-err
returns-in_err-answer_at_hand-clause-err g c = at-fault _ c.from_residual.result c.in_err-answer_at_hand.field-0.0 c.from_residual.ensures.1 (
    (stops-behind refl c.loop-answering.invariant.sid c.loop-answering.invariant.in_turn c.in_err-answer_at_hand.ensures.err).ends)

pub returns-in_err-answer_at_hand-clause-turns : goal.returns-in_err-answer_at_hand-clause-turns
returns-in_err-answer_at_hand-clause-turns g c = asks-at c.from_residual.result c.in_err-answer_at_hand.field-0.0 c.from_residual.ensures.1 (
    stopped-asks g.S.LineSource.failed (stops-behind refl c.loop-answering.invariant.sid c.loop-answering.invariant.in_turn c.in_err-answer_at_hand.ensures.err))

-- a write fails before the next line is read
pub returns-in_err-write_out-clause-err : goal.returns-in_err-write_out-clause-err
returns-in_err-write_out-clause-err g c = at-fault _ c.from_residual-in_err-write_out.result c.in_err-write_out.field-0.0 c.from_residual-in_err-write_out.ensures.1 (
    let hand = at-hand c.loop-answering.invariant.sid c.loop-answering.invariant.in_turn c.in_ok-answer_at_hand.ensures.ok in
    (fails-write {desk = c.answer_at_hand.new.desk} refl hand
    (same-fault c.in_err-write_out.field-0.0 Output c.in_err-write_out.ensures.output) c.in_err-write_out.ensures.err).ends)

pub returns-in_err-write_out-clause-turns : goal.returns-in_err-write_out-clause-turns
returns-in_err-write_out-clause-turns g c = asks-at c.from_residual-in_err-write_out.result c.in_err-write_out.field-0.0 c.from_residual-in_err-write_out.ensures.1 (
    let hand = at-hand c.loop-answering.invariant.sid c.loop-answering.invariant.in_turn c.in_ok-answer_at_hand.ensures.ok in
    stopped-asks g.S.LineSource.failed
    (fails-write {desk = c.answer_at_hand.new.desk} refl hand
    (same-fault c.in_err-write_out.field-0.0 Output c.in_err-write_out.ensures.output) c.in_err-write_out.ensures.err))

-- the next line can't be read
pub returns-in_err-read_line-clause-err : goal.returns-in_err-read_line-clause-err
returns-in_err-read_line-clause-err g c = at-fault _ c.from_residual-in_err-read_line.result c.in_err-read_line.field-0.0 c.from_residual-in_err-read_line.ensures.1 (
    let hand = at-hand c.loop-answering.invariant.sid c.loop-answering.invariant.in_turn c.in_ok-answer_at_hand.ensures.ok in
    reading-cut c.in_err-read_line.field-0.0 c.read_line.new.source c.write_out.new.writer refl hand c.in_err-read_line.ensures.fault c.in_ok-write_out.ensures.ok
    c.in_err-read_line.ensures.cut)

pub returns-in_err-read_line-clause-turns : goal.returns-in_err-read_line-clause-turns
returns-in_err-read_line-clause-turns g c = asks-at c.from_residual-in_err-read_line.result c.in_err-read_line.field-0.0 c.from_residual-in_err-read_line.ensures.1 (
    let hand = at-hand c.loop-answering.invariant.sid c.loop-answering.invariant.in_turn c.in_ok-answer_at_hand.ensures.ok in (
      c.read_line.new.turns,
      asks-written c.read_line.new.turns c.read_line.new.source c.write_out.new.writer hand c.in_ok-write_out.ensures.ok c.in_err-read_line.ensures.turns,
      λ e. inl (c.in_err-read_line.ensures.cause e),
    ))

-- there is no next line
pub returns-then-is_empty-clause-ok : goal.returns-then-is_empty-clause-ok
returns-then-is_empty-clause-ok g c =
    let hand = at-hand c.loop-answering.invariant.sid c.loop-answering.invariant.in_turn c.in_ok-answer_at_hand.ensures.ok in
    let none : length c.read_line.new.line.items ≡ 0 = omega (
      arith,
      c.read_line.new.line.ok.0,
      eqb-true (vec_len c.read_line.new.line) 0 (sym c.is_empty.ensures ∙ c.if-is_empty.true),
    ) in
    reading-end c.write_out.new.writer refl hand c.in_ok-write_out.ensures.ok (kept-none _ _ c.in_ok-read_line.ensures.kept none)

pub returns-then-is_empty-clause-all : goal.returns-then-is_empty-clause-all
returns-then-is_empty-clause-all g c =
    let hand = at-hand c.loop-answering.invariant.sid c.loop-answering.invariant.in_turn c.in_ok-answer_at_hand.ensures.ok in
    let none : length c.read_line.new.line.items ≡ 0 = omega (
      arith,
      c.read_line.new.line.ok.0,
      eqb-true (vec_len c.read_line.new.line) 0 (sym c.is_empty.ensures ∙ c.if-is_empty.true),
    ) in
    reading-all c.read_line.new.source refl hand (kept-none _ _ c.in_ok-read_line.ensures.kept none) c.in_ok-read_line.ensures.rest

pub returns-then-is_empty-clause-turns : goal.returns-then-is_empty-clause-turns
returns-then-is_empty-clause-turns g c =
    let hand = at-hand c.loop-answering.invariant.sid c.loop-answering.invariant.in_turn c.in_ok-answer_at_hand.ensures.ok in (
      c.read_line.new.turns,
      asks-written c.read_line.new.turns c.read_line.new.source c.write_out.new.writer hand c.in_ok-write_out.ensures.ok
          c.in_ok-read_line.ensures.turns,
      λ e. absurd (cc (e)),
    )

-- what is outstanding after the line is waited for in vain
pub returns-then-not-rest-clause-err : goal.returns-then-not-rest-clause-err
returns-then-not-rest-clause-err g c =
    let hand = at-hand c.loop-answering.invariant.sid c.loop-answering.invariant.in_turn c.in_ok-answer_at_hand.ensures.ok in
    reading-cut Input c.read_line.new.source c.write_out.new.writer refl hand tt c.in_ok-write_out.ensures.ok
    (cuts-line _ _ c.in_ok-read_line.ensures.rest)

pub returns-then-not-rest-clause-turns : goal.returns-then-not-rest-clause-turns
returns-then-not-rest-clause-turns g c =
    let vain : c.rest.result ≡ false = search rules in
    let hand = at-hand c.loop-answering.invariant.sid c.loop-answering.invariant.in_turn c.in_ok-answer_at_hand.ensures.ok in (
      c.read_line.new.turns,
      asks-written c.read_line.new.turns c.read_line.new.source c.write_out.new.writer hand c.in_ok-write_out.ensures.ok
          c.in_ok-read_line.ensures.turns,
      λ e. inr (c.message_into.new.desk, subst (λ (b : Bool). WaitsOut c.message_into.new.desk b c.rest.new.self) vain c.rest.ensures.rests),
    )

-- the answer can't be written
pub returns-in_err-gather-clause-err : goal.returns-in_err-gather-clause-err
returns-in_err-gather-clause-err g c = at-fault _ c.from_residual-in_err-gather.result c.in_err-gather.field-0.0 c.from_residual-in_err-gather.ensures.1 (
    let hand = at-hand c.loop-answering.invariant.sid c.loop-answering.invariant.in_turn c.in_ok-answer_at_hand.ensures.ok in
    let some : 0 < length c.read_line.new.line.items = omega (
      arith,
      c.read_line.new.line.ok.0,
      eqb-false (vec_len c.read_line.new.line) 0 (sym c.is_empty.ensures ∙ c.if-is_empty.false),
    ) in
    let rested : c.rest.result ≡ true = search rules in
    let answered = line_rested (c.answer_at_hand.ensures.same ∙ c.loop-answering.invariant.sid) c.deref.ensures.value c.message_into.ensures.talked.0
    c.rest.ensures.rests rested in
    let read = stand (state c.answer_at_hand.new.desk c.answer_at_hand.new.self.talker.macros) c.read_line.new.source c.write_out.new.writer
    c.write_out.new.unwritten.items c.read_line.new.turns in
    let next = stand (state c.rest.new.self c.message_into.new.self.macros) c.read_line.new.source c.write_out.new.writer
    (c.write_out.new.unwritten.items ++ c.message_into.new.out.items) c.read_line.new.turns in
    let comes = further-asked read next hand c.in_ok-write_out.ensures.ok c.in_ok-write_out.ensures.none c.in_ok-read_line.ensures.turns
    c.in_ok-read_line.ensures.kept (λ none. absurd (omega (arith, some, ap length none))) c.in_ok-read_line.ensures.rest answered
    (gathers-none _ _) refl refl in
    let part = subst (λ (b : List ℕ). WritesPart (g.W.Write.contents c.write_out.new.writer) (g.W.Write.contents c.gather.new.writer)
    (c.write_out.new.unwritten.items ++ b)) c.deref-in-loop-answering.ensures.value c.in_err-gather.ensures.err in
    (fails-write {desk = c.rest.new.self} refl (handed-none comes) (same-fault c.in_err-gather.field-0.0 Output c.in_err-gather.ensures.output) part).ends)

pub returns-in_err-gather-clause-turns : goal.returns-in_err-gather-clause-turns
returns-in_err-gather-clause-turns g c = asks-at c.from_residual-in_err-gather.result c.in_err-gather.field-0.0 c.from_residual-in_err-gather.ensures.1 (
    let hand = at-hand c.loop-answering.invariant.sid c.loop-answering.invariant.in_turn c.in_ok-answer_at_hand.ensures.ok in
    let some : 0 < length c.read_line.new.line.items = omega (
      arith,
      c.read_line.new.line.ok.0,
      eqb-false (vec_len c.read_line.new.line) 0 (sym c.is_empty.ensures ∙ c.if-is_empty.false),
    ) in
    let rested : c.rest.result ≡ true = search rules in
    let answered = line_rested (c.answer_at_hand.ensures.same ∙ c.loop-answering.invariant.sid) c.deref.ensures.value c.message_into.ensures.talked.0
    c.rest.ensures.rests rested in
    let read = stand (state c.answer_at_hand.new.desk c.answer_at_hand.new.self.talker.macros) c.read_line.new.source c.write_out.new.writer
    c.write_out.new.unwritten.items c.read_line.new.turns in
    let next = stand (state c.rest.new.self c.message_into.new.self.macros) c.read_line.new.source c.write_out.new.writer
    (c.write_out.new.unwritten.items ++ c.message_into.new.out.items) c.read_line.new.turns in
    let comes = further-asked read next hand c.in_ok-write_out.ensures.ok c.in_ok-write_out.ensures.none c.in_ok-read_line.ensures.turns
    c.in_ok-read_line.ensures.kept (λ none. absurd (omega (arith, some, ap length none))) c.in_ok-read_line.ensures.rest answered
    (gathers-none _ _) refl refl in
    let part = subst (λ (b : List ℕ). WritesPart (g.W.Write.contents c.write_out.new.writer) (g.W.Write.contents c.gather.new.writer)
    (c.write_out.new.unwritten.items ++ b)) c.deref-in-loop-answering.ensures.value c.in_err-gather.ensures.err in
    stopped-asks g.S.LineSource.failed
    (fails-write {desk = c.rest.new.self} refl (handed-none comes) (same-fault c.in_err-gather.field-0.0 Output c.in_err-gather.ensures.output) part))

pub loop-answering-preserved : goal.loop-answering-preserved
loop-answering-preserved g c =
    let hand = at-hand c.loop-answering.invariant.sid c.loop-answering.invariant.in_turn c.in_ok-answer_at_hand.ensures.ok in
    let some : 0 < length c.read_line.new.line.items = omega (
      arith,
      c.read_line.new.line.ok.0,
      eqb-false (vec_len c.read_line.new.line) 0 (sym c.is_empty.ensures ∙ c.if-is_empty.false),
    ) in
    let rested : c.rest.result ≡ true = search rules in
    let answered = line_rested (c.answer_at_hand.ensures.same ∙ c.loop-answering.invariant.sid) c.deref.ensures.value c.message_into.ensures.talked.0
    c.rest.ensures.rests rested in
    let read = stand (state c.answer_at_hand.new.desk c.answer_at_hand.new.self.talker.macros) c.read_line.new.source c.write_out.new.writer
    c.write_out.new.unwritten.items c.read_line.new.turns in
    let wrote = subst (λ (b : List ℕ). Gathers (g.W.Write.contents c.write_out.new.writer) (c.write_out.new.unwritten.items ++ b)
    (g.W.Write.contents c.gather.new.writer) c.gather.new.unwritten.items) c.deref-in-loop-answering.ensures.value c.in_ok-gather.ensures.ok in
    let next = stand (state c.rest.new.self c.message_into.new.self.macros) c.read_line.new.source c.gather.new.writer c.gather.new.unwritten.items
    c.read_line.new.turns in
    record {
      sid = c.message_into.ensures.same ∙ c.answer_at_hand.ensures.same ∙ c.loop-answering.invariant.sid;
      in_turn = further-asked read next hand c.in_ok-write_out.ensures.ok c.in_ok-write_out.ensures.none c.in_ok-read_line.ensures.turns
          c.in_ok-read_line.ensures.kept (λ none. absurd (omega (arith, some, ap length none))) c.in_ok-read_line.ensures.rest answered
          wrote refl refl;
    }

pub loop-answering-smaller : goal.loop-answering-smaller
loop-answering-smaller g c = omega (arith, c.in_ok-read_line.ensures.spent, c.answer_at_hand.ensures.turns)

-- no turn is left
pub returns-in_err-write_out-2-clause-err : goal.returns-in_err-write_out-2-clause-err
returns-in_err-write_out-2-clause-err g c = at-fault _ c.from_residual-in_err-write_out-2.result c.in_err-write_out-2.field-0.0 c.from_residual-in_err-write_out-2.ensures.1 (
    (fails-write {desk = c.loop-answering.desk} refl (handed-none c.loop-answering.invariant.in_turn)
    (same-fault c.in_err-write_out-2.field-0.0 Output c.in_err-write_out-2.ensures.output) c.in_err-write_out-2.ensures.err).ends)

pub returns-in_err-write_out-2-clause-turns : goal.returns-in_err-write_out-2-clause-turns
returns-in_err-write_out-2-clause-turns g c = asks-at c.from_residual-in_err-write_out-2.result c.in_err-write_out-2.field-0.0 c.from_residual-in_err-write_out-2.ensures.1 (
    (c.loop-answering.answering.turns, asks-none c.loop-answering.invariant.in_turn, λ e. inl (inl (omega arith))))

pub returns-clause-err : goal.returns-clause-err
returns-clause-err g c =
    reading-cut Input c.loop-answering.source _ refl (handed-none c.loop-answering.invariant.in_turn) tt c.in_ok-write_out-2.ensures.ok
    (cuts-none _ _ (keeps-same _))

pub returns-clause-turns : goal.returns-clause-turns
returns-clause-turns g c = (c.loop-answering.answering.turns, asks-none c.loop-answering.invariant.in_turn, λ e. inl (inl (omega arith)))
