use Rattle.std.proofs.Common.{◌∙◌, ap, true}
use Rattle.sw_cage.specs.Accounts.{accounts_of}
use Rattle.sw_cage.specs.Cage.{CageSeen}
use Rattle.sw_cage.proofs.CardLemmas.{seen_is}
use Rattle.sw_cage.proofs.KeptLemmas.{kept_idle, stays_call}
use Rattle.sw_cage.proofs.cage.Cage.close_listed.Goals as goal

pub invariant_of-self : goal.invariant_of-self
invariant_of-self g c = kept_idle _ (accounts_of c.close_listed.new.self) _ c.self.invariant (ap (λ (p : CageSeen). p.scan) (seen_is c.self.view_is)
    ∙ c.requires.idle)
    (stays_call c.close_listed.result (accounts_of c.self.inside.slots) (accounts_of c.close_listed.new.self) c.args.chans.now true c.close_listed.ensures.ok
    c.close_listed.ensures.err)
