use Rattle.std.proofs.Common.{Ok, refl}
use Rattle.sw_talk.specs.Talk.{has_answers}
use Rattle.sw_talk.proofs.BeginsLemmas.{begins-unread}
use Rattle.sw_talk.proofs.TalksLemmas.{serve-unit}
use Rattle.sw_talk.proofs.talker.Talker.serve_unread.Goals as goal

pub returns-clause-serves : goal.returns-clause-serves
returns-clause-serves g c = λ path answers written.
    let s = c.conclude-after.ensures path c.args.self.now.macros answers written in
    let sid = c.args.self.now.sid in
    let macros = c.args.self.now.macros in
    let answer = c.queue-answer.result in (
      s.0,
      s.1,
      serve-unit g.D.Desk.passes _ _ _ sid (Ok c.args.command) (has_answers answers) path macros macros answers answer _ s.0 refl
          (begins-unread g.D.Desk.passes sid _ _ c.args.command (has_answers answers) answer macros c.requires c.queue-answer.ensures)
          s.2,
    )
