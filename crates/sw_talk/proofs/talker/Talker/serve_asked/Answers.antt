use Rattle.std.proofs.Common.{◌∙◌, Ok}
use Rattle.sw_talk.proofs.TalksLemmas.{serve-unit}
use Rattle.sw_talk.proofs.talker.Talker.serve_asked.Goals as goal

pub returns-then-lacks_room-clause-serves : goal.returns-then-lacks_room-clause-serves
returns-then-lacks_room-clause-serves g c = λ path answers written.
    c.serve_unread.ensures.serves path answers (c.lacks_room.ensures.same ∙ written)

pub returns-clause-serves : goal.returns-clause-serves
returns-clause-serves g c = λ path answers written.
    let line = c.lacks_room.ensures.same ∙ written in
    let s = c.conclude-after.ensures path c.args.self.now.macros answers line in (
      s.0,
      s.1,
      serve-unit g.D.Desk.passes _ _ _ c.args.self.now.sid (Ok c.args.command) _ path c.args.self.now.macros c.args.self.now.macros answers
          c.ask_command.new.answer _ s.0
          (c.has_answers-answered.ensures answers (c.deref.ensures.value ∙ line)) (c.ask_command.ensures c.args.self.now.macros) s.2,
    )
