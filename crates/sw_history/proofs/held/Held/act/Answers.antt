use Rattle.std.proofs.Common.{rules}
use Rattle.sw_history.proofs.held.Held.act.Goals as goal

pub returns-clause-waits : goal.returns-clause-waits
returns-clause-waits g c =
    let woken = c.wakes.ensures c.step-happened.new.left c.step-happened.ensures.event in search (rules, woken)
