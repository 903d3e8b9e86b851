use Rattle.sw_session.proofs.channel_server.ChannelServer.serve.Goals as goal

pub returns-in-Ok-clause-served : goal.returns-in-Ok-clause-served
returns-in-Ok-clause-served g c = rw c.in-Ok.is (c.notice_and_take.ensures.processed, c.notice_and_take.ensures.judged)

pub returns-in-Err-clause-served : goal.returns-in-Err-clause-served
returns-in-Err-clause-served g c = rw c.in-Err.is c.answer_fault.ensures.served
