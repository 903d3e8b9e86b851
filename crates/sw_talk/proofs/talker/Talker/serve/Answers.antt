use Rattle.sw_talk.proofs.talker.Talker.serve.Goals as goal

pub returns-in-Err-clause-serves : goal.returns-in-Err-clause-serves
returns-in-Err-clause-serves g c = rw c.in-Err.is c.serve_error.ensures.serves

pub returns-then-is_own-clause-serves : goal.returns-then-is_own-clause-serves
returns-then-is_own-clause-serves g c = rw c.in-Ok.is c.serve_own.ensures.serves

pub returns-else-is_own-clause-serves : goal.returns-else-is_own-clause-serves
returns-else-is_own-clause-serves g c = rw c.in-Ok.is c.serve_asked.ensures.serves
