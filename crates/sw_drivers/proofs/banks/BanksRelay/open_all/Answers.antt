use Rattle.std.proofs.Common.{length, ap, ◌∙◌}
use Rattle.sw_card.specs.Account.{Account}
use Rattle.sw_card.proofs.Rows.{length-none}
use Rattle.sw_drivers.proofs.banks.BanksRelay.open_all.Goals as goal

pub invariant_of-self : goal.invariant_of-self
invariant_of-self g c =
    let rested = c.open_all.ensures.account in
    record {
      channels = ap (λ (a : Account). length a.groups) rested ∙ c.self.invariant.channels;
      states = ap (λ (a : Account). length a.closed) rested ∙ (length-none c.self.inside.row.1.closed ∙ c.self.invariant.states);
    }
