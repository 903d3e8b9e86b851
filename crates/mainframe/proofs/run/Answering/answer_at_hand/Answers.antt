use Rattle.std.proofs.Common.{◌≡◌, ◌<◌, ◌∙◌, Bool, true, false, ℕ, List, [], ◌++◌, refl, subst, inl, rules, arith}
use Rattle.sw_talk.specs.CoreDesk.{WaitsOut}
use Rattle.sw_session.specs.ServeWrite.{WritesPart}
use Rattle.sw_talk.specs.Talk.{state}
use Rattle.mainframe.specs.Turns.{Gathers, stand}
use Rattle.mainframe.specs.declared.fault.RunFault.TheVariants.{Output}
use Rattle.mainframe.proofs.TurnLemmas.{unasked-none, unasked-one, unasked-two, gathers-none, keeps-same, at-fault}
use Rattle.mainframe.proofs.RunsLemmas.{shown-taken, line_rested}
use Rattle.mainframe.proofs.StandLemmas.{further, stops-output, same-fault}
use Rattle.mainframe.proofs.run.Answering.answer_at_hand.Goals as goal

pub loop-self-init : goal.loop-self-init
loop-self-init g c = record { sid = refl; turns = refl; in_turn = record { lines = []; turns = refl } }

pub returns-then-length-eq0-clause-ok : goal.returns-then-length-eq0-clause-ok
returns-then-length-eq0-clause-ok g c = record {
  lines = c.loop-self.invariant.in_turn.lines;
  last = stand (state c.loop-self.desk c.loop-self.self.talker.macros) c.loop-self.source c.loop-self.writer c.loop-self.self.unwritten.items c.loop-self.self.turns;
  turns = c.loop-self.invariant.in_turn.turns;
  moves = unasked-one g.S.LineSource.unasked _ _ c.look-length.ensures.unasked;
  keeps = c.look-length.ensures.keeps;
  same = refl;
}

pub returns-clause-ok : goal.returns-clause-ok
returns-clause-ok g c = record {
  lines = c.loop-self.invariant.in_turn.lines;
  last = stand (state c.loop-self.desk c.loop-self.self.talker.macros) c.loop-self.source c.loop-self.writer c.loop-self.self.unwritten.items c.loop-self.self.turns;
  turns = c.loop-self.invariant.in_turn.turns;
  moves = unasked-none g.S.LineSource.unasked _;
  keeps = keeps-same _;
  same = refl;
}

-- a write fails after a line that was waited for in vain
pub returns-in_err-write_out-clause-err : goal.returns-in_err-write_out-clause-err
returns-in_err-write_out-clause-err g c = at-fault _ c.from_residual.result c.in_err-write_out.field-0.0 c.from_residual.ensures.1 (record {
  lines = c.loop-self.invariant.in_turn.lines;
  last = stand (state c.loop-self.desk c.loop-self.self.talker.macros) c.loop-self.source c.loop-self.writer c.loop-self.self.unwritten.items
      c.loop-self.self.turns;
  turns = c.loop-self.invariant.in_turn.turns;
  same = c.loop-self.invariant.turns;
  moves = unasked-one g.S.LineSource.unasked _ _ c.look-length.ensures.unasked;
  keeps = c.look-length.ensures.keeps;
  stops = stops-output g.W.Write.contents c.in_err-write_out.field-0.0 c.loop-self.writer c.write_out.new.writer c.loop-self.self.unwritten.items
      c.rest.new.self (same-fault c.in_err-write_out.field-0.0 Output c.in_err-write_out.ensures.output) c.in_err-write_out.ensures.err;
})

pub returns-then-not-rest-clause-err : goal.returns-then-not-rest-clause-err
returns-then-not-rest-clause-err g c =
    let vain : c.rest.result ≡ false = search rules in
    record {
      lines = c.loop-self.invariant.in_turn.lines;
      last = stand (state c.loop-self.desk c.loop-self.self.talker.macros) c.loop-self.source c.loop-self.writer c.loop-self.self.unwritten.items c.loop-self.self.turns;
      turns = c.loop-self.invariant.in_turn.turns;
      same = c.loop-self.invariant.turns;
      moves = unasked-one g.S.LineSource.unasked _ _ c.look-length.ensures.unasked;
      keeps = c.look-length.ensures.keeps;
      stops = (
        c.in_ok-write_out.ensures.ok,
        (c.message_into.new.desk, subst (λ (b : Bool). WaitsOut c.message_into.new.desk b c.rest.new.self) vain c.rest.ensures.rests),
      );
    }

pub returns-in_err-gather-clause-err : goal.returns-in_err-gather-clause-err
returns-in_err-gather-clause-err g c =
    let some : 0 < c.look-length.result = omega (arith, c.if-length-eq0.false) in
    let shows = c.look-length.ensures.line some in
    let taken = shown-taken (g.S.LineSource.remaining c.loop-self.source) (g.S.LineSource.remaining c.look-length.new.self)
    (g.S.LineSource.remaining c.take.new.self) c.look-length.result c.look-length.new.line.items
    (g.S.LineSource.shows c.look-length.new.self c.look-length.result)
    shows c.look-length.ensures.keeps c.look-length.ensures.shown c.take.ensures.taken in
    let rested : c.rest.result ≡ true = search rules in
    let answered = line_rested c.loop-self.invariant.sid c.deref.ensures.value c.message_into.ensures.talked.0 c.rest.ensures.rests rested in
    let next = stand (state c.rest.new.self c.message_into.new.self.macros) c.take.new.self c.loop-self.writer
    (c.loop-self.self.unwritten.items ++ c.message_into.new.out.items) c.loop-self.self.turns in
    let read = stand (state c.loop-self.desk c.loop-self.self.talker.macros) c.take.new.self c.loop-self.writer c.loop-self.self.unwritten.items c.loop-self.self.turns in
    let comes = further read next c.loop-self.invariant.in_turn (inl (record {
      moves = unasked-two g.S.LineSource.unasked _ c.look-length.new.self _ c.look-length.ensures.unasked c.take.ensures.unasked;
      writer = refl;
      unwritten = refl;
      turns = refl;
    })) taken.0 shows.0 taken.1 answered (gathers-none _ _) refl refl in
    let part = subst (λ (b : List ℕ). WritesPart (g.W.Write.contents c.loop-self.writer) (g.W.Write.contents c.gather.new.writer)
    (c.loop-self.self.unwritten.items ++ b)) c.deref-in-loop-self.ensures.value c.in_err-gather.ensures.err in
    at-fault _ c.from_residual-in_err-gather.result c.in_err-gather.field-0.0 c.from_residual-in_err-gather.ensures.1 (record {
      lines = comes.lines;
      last = next;
      turns = comes.turns;
      same = c.loop-self.invariant.turns;
      moves = unasked-none g.S.LineSource.unasked _;
      keeps = keeps-same _;
      stops = stops-output g.W.Write.contents c.in_err-gather.field-0.0 c.loop-self.writer c.gather.new.writer
          (c.loop-self.self.unwritten.items ++ c.message_into.new.out.items) c.rest.new.self (same-fault c.in_err-gather.field-0.0 Output c.in_err-gather.ensures.output) part;
    })

pub loop-self-preserved : goal.loop-self-preserved
loop-self-preserved g c =
    let some : 0 < c.look-length.result = omega (arith, c.if-length-eq0.false) in
    let shows = c.look-length.ensures.line some in
    let taken = shown-taken (g.S.LineSource.remaining c.loop-self.source) (g.S.LineSource.remaining c.look-length.new.self)
    (g.S.LineSource.remaining c.take.new.self) c.look-length.result c.look-length.new.line.items
    (g.S.LineSource.shows c.look-length.new.self c.look-length.result)
    shows c.look-length.ensures.keeps c.look-length.ensures.shown c.take.ensures.taken in
    let rested : c.rest.result ≡ true = search rules in
    let answered = line_rested c.loop-self.invariant.sid c.deref.ensures.value c.message_into.ensures.talked.0 c.rest.ensures.rests rested in
    let wrote = subst (λ (b : List ℕ). Gathers (g.W.Write.contents c.loop-self.writer) (c.loop-self.self.unwritten.items ++ b)
    (g.W.Write.contents c.gather.new.writer) c.gather.new.unwritten.items) c.deref-in-loop-self.ensures.value c.in_ok-gather.ensures.ok in
    let next = stand (state c.rest.new.self c.message_into.new.self.macros) c.take.new.self c.gather.new.writer c.gather.new.unwritten.items
    c.loop-self.self.turns in
    let read = stand (state c.loop-self.desk c.loop-self.self.talker.macros) c.take.new.self c.loop-self.writer c.loop-self.self.unwritten.items
    c.loop-self.self.turns in
    record {
      sid = c.message_into.ensures.same ∙ c.loop-self.invariant.sid;
      turns = c.loop-self.invariant.turns;
      in_turn = further read next c.loop-self.invariant.in_turn (inl (record {
        moves = unasked-two g.S.LineSource.unasked _ c.look-length.new.self _ c.look-length.ensures.unasked c.take.ensures.unasked;
        writer = refl;
        unwritten = refl;
        turns = refl;
      })) taken.0 shows.0 taken.1 answered wrote refl refl;
    }
