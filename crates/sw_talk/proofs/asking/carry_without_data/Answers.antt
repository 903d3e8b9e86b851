use Rattle.sw_talk.proofs.BeginsLemmas.{begins-scan, begins-read}
use Rattle.sw_talk.proofs.asking.carry_without_data.Goals as goal

pub returns-in-Initiate : goal.returns-in-Initiate
returns-in-Initiate g c =
    rw c.in-Initiate.is (begins-scan g.D.Desk.passes c.args.sid _ _ c.args.answered c.initiate.result c.args.macros.now c.initiate.ensures)

pub returns-in-Read : goal.returns-in-Read
returns-in-Read g c =
    rw c.in-Read.is (begins-read g.D.Desk.passes c.args.sid _ _ c.args.answered c.read.result c.args.macros.now c.read.ensures)

pub returns-in_default : goal.returns-in_default
returns-in_default g c = c.ask.ensures c.args.macros.now
