use Rattle.std.proofs.Common.{ap}
use Rattle.sw_kinds.proofs.Rows.{account_none}
use Rattle.sw_kinds.proofs.row.RowRelay.open_all.Goals as goal

pub returns-clause-account : goal.returns-clause-account
returns-clause-account g c =
    let old = c.self.inside in
    let empty = c.new-self-inside in
    let e = ap (λ p. p.1) c.self.view_is in
    account_none c.args.self.now.1 old.serial old.failures old.channels old.group old.closed empty.result e empty.ensures
