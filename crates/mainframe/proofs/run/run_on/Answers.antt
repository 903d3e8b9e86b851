use Rattle.std.proofs.Common.{[], IfSome, OnOk, IfErr}
use Rattle.mainframe.specs.Run.{AnsweredFrom, EndsFrom}
use Rattle.mainframe.proofs.StandLemmas.{begins-so, asks-so}
use Rattle.mainframe.proofs.run.run_on.Goals as goal

pub returns-clause-ok : goal.returns-clause-ok
returns-clause-ok g c =
    begins-so (λ sid start. OnOk c.answer_all.result (IfSome (g.S.LineSource.remaining c.args.source.now) (λ input.
    AnsweredFrom sid start input [] (g.W.Write.contents c.args.writer.now) (g.W.Write.contents c.answer_all.new.writer))))
    c.new.ensures.sid c.new.ensures.macros c.answer_all.ensures.ok

pub returns-clause-err : goal.returns-clause-err
returns-clause-err g c =
    begins-so (λ sid start. IfErr c.answer_all.result (λ fault. IfSome (g.S.LineSource.remaining c.args.source.now) (λ input.
    EndsFrom sid start fault input (g.S.LineSource.remaining c.answer_all.new.source) (g.W.Write.contents c.args.writer.now)
    (g.W.Write.contents c.answer_all.new.writer)))) c.new.ensures.sid c.new.ensures.macros c.answer_all.ensures.err

pub returns-clause-turns : goal.returns-clause-turns
returns-clause-turns g c = asks-so c.new.ensures.sid c.new.ensures.macros c.new.ensures.turns c.answer_all.ensures.turns
