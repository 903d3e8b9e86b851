use Rattle.std.proofs.Common.{ℕ, Option, subst}
use Rattle.sw_talk.specs.Trace.{Led}
use Rattle.sw_talk.specs.Talk.{ReadsBack}
use Rattle.sw_talk.proofs.BeginsLemmas.{read-planned}
use Rattle.sw_talk.proofs.asking.read.Goals as goal

pub returns : goal.returns
returns g c =
    let read = subst (λ (due : Option (ℕ × ℕ)). Led g.D.Desk.passes c.plan-started.new.desk c.read_back.new.desk (λ t rest.
    ReadsBack c.args.sid c.args.answered due c.plan-started.result t c.read_back.result rest)) c.due_of-due.ensures c.read_back.ensures in
    read-planned g.D.Desk.passes c.args.sid _ _ _ _ c.args.answered c.settle-offered.result c.plan-started.result c.read_back.result
    c.settle-offered.ensures c.plan-started.ensures read
