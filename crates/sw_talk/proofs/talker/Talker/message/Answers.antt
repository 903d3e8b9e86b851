use Rattle.sw_talk.proofs.talker.Talker.message.Goals as goal

pub returns-clause-talked : goal.returns-clause-talked
returns-clause-talked g c = c.talk_over-answers.ensures.talked.0
