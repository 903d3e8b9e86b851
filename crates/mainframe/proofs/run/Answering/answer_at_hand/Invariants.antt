use Rattle.std.specs.Prelude.{◌≡◌}
use Rattle.sw_talk.specs.Talk.{state}
use Rattle.mainframe.specs.Turns.{stand, streams}
use Rattle.mainframe.proofs.StandLemmas.{ComesTo}
use Rattle.mainframe.proofs.run.Answering.answer_at_hand.Given as goal

abbrev pub invariant-loop-self : goal.invariant-loop-self
invariant-loop-self g l = record {
  sid : l.self.talker.sid ≡ l.fn.self.talker.sid;
  turns : l.self.turns ≡ l.fn.self.turns;
  in_turn : ComesTo (streams g.S.LineSource.remaining g.S.LineSource.asked g.S.LineSource.unasked g.W.Write.contents) l.fn.self.talker.sid
      (stand (state l.fn.desk l.fn.self.talker.macros) l.fn.source l.fn.writer l.fn.self.unwritten.items l.fn.self.turns)
      (stand (state l.desk l.self.talker.macros) l.source l.writer l.self.unwritten.items l.self.turns);
}

abbrev pub decreases-loop-self : goal.decreases-loop-self
decreases-loop-self g l = l.self.at_hand
