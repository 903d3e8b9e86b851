use Rattle.std.proofs.Common.{◌∙◌, Ok}
use Rattle.sw_talk.proofs.TalksLemmas.{serve-unit}
use Rattle.sw_talk.proofs.talker.Talker.serve_own.Goals as goal

pub returns-clause-serves : goal.returns-clause-serves
returns-clause-serves g c = λ path answers written.
    let s = c.conclude-after.ensures path c.args.self.now.macros answers written in (
      s.0,
      s.1,
      serve-unit g.D.Desk.passes _ _ _ c.args.self.now.sid (Ok c.args.command) _ path c.args.self.now.macros c.carry_out-answer.new.macros answers
          c.carry_out-answer.result _ s.0
          (c.has_answers-answered.ensures answers (c.deref.ensures.value ∙ written)) c.carry_out-answer.ensures s.2,
    )
