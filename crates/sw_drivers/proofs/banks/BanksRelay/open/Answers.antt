use Rattle.std.proofs.Common.{Bool, List, OnErr, ap, subst}
use Rattle.sw_card.specs.Account.{IsWithin}
use Rattle.sw_kinds.proofs.Rows.{within_old}
use Rattle.sw_drivers.proofs.banks.BanksRelay.open.Goals as goal

pub returns-clause-err : goal.returns-clause-err
returns-clause-err g c =
    let old = c.self.inside.row.1 in
    let w = within_old c.open.result old c.open.new.self.1 c.open.ensures.err in
    subst (λ (l : List Bool). OnErr c.open.result (IsWithin c.open.new.self.1.closed l)) (ap (λ p. p.1.closed) c.self.view_is) w
