use Rattle.std.proofs.Common.{Bool, true, List, OnErr, ap, subst}
use Rattle.sw_card.specs.Account.{IsWithin, set_closed}
use Rattle.sw_kinds.proofs.Rows.{within_set}
use Rattle.sw_drivers.proofs.banks.BanksRelay.close.Goals as goal

pub returns-clause-err : goal.returns-clause-err
returns-clause-err g c =
    let old = c.self.inside.row.1 in
    let w = within_set c.close.result old c.close.new.self.1 c.args.ch true c.close.ensures.err in
    subst (λ (l : List Bool). OnErr c.close.result (IsWithin c.close.new.self.1.closed (set_closed l c.args.ch true)))
    (ap (λ p. p.1.closed) c.self.view_is) w
