use Rattle.std.specs.Prelude.{◌≡◌, []}
use Rattle.sw_talk.specs.Talk.{state}
use Rattle.mainframe.specs.Turns.{stand, streams}
use Rattle.mainframe.proofs.StandLemmas.{ComesTo}
use Rattle.mainframe.proofs.run.answer_all.Given as goal

abbrev pub invariant-loop-answering : goal.invariant-loop-answering
invariant-loop-answering g l = record {
  sid : l.answering.talker.sid ≡ l.fn.answering.talker.sid;
  in_turn : ComesTo (streams g.S.LineSource.remaining g.S.LineSource.asked g.S.LineSource.unasked g.W.Write.contents) l.fn.answering.talker.sid
      (stand (state l.fn.desk l.fn.answering.talker.macros) l.fn.source l.fn.writer [] l.fn.answering.turns)
      (stand (state l.desk l.answering.talker.macros) l.source l.writer l.answering.unwritten.items l.answering.turns);
}

abbrev pub decreases-loop-answering : goal.decreases-loop-answering
decreases-loop-answering g l = l.answering.turns
