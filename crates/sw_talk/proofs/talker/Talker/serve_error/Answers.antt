use Rattle.std.proofs.Common.{List, Err, refl}
use Rattle.sw_talk.specs.Trace.{Entry}
use Rattle.sw_talk.specs.Talk.{Begins, Queues, has_answers, begun_with}
use Rattle.sw_talk.proofs.LedLemmas.{led-so}
use Rattle.sw_talk.proofs.TalksLemmas.{serve-unit}
use Rattle.sw_talk.proofs.talker.Talker.serve_error.Goals as goal

pub returns-clause-serves : goal.returns-clause-serves
returns-clause-serves g c = λ path answers written.
    let s = c.conclude-after.ensures path c.args.self.now.macros answers written in
    let sid = c.args.self.now.sid in
    let macros = c.args.self.now.macros in
    let answer = c.queue-answer.result in (
      s.0,
      s.1,
      serve-unit g.D.Desk.passes _ _ _ sid (Err c.args.error) (has_answers answers) path macros macros answers answer _ s.0 refl
          (led-so g.D.Desk.passes _ _ (λ (t rest : List Entry). Queues sid c.args.error t answer rest)
          (λ (t rest : List Entry). Begins sid (has_answers answers) (Err c.args.error) macros t (begun_with answer macros rest))
          c.queue-answer.ensures (λ t rest q. (q, refl)))
          s.2,
    )
