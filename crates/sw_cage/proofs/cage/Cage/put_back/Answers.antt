use Rattle.std.proofs.Common.{ap}
use Rattle.sw_cage.specs.Accounts.{accounts_of}
use Rattle.sw_cage.proofs.CardLemmas.{seen_is}
use Rattle.sw_cage.proofs.HappeningLemmas.{kept_back, here_out, here_late}
use Rattle.sw_cage.proofs.cage.Cage.put_back.Goals as goal

pub invariant_of-self : goal.invariant_of-self
invariant_of-self g c =
    let f = c.finished.inside in
    kept_back _ f.slot f.ticket f.meter.1 (accounts_of c.take_in.new.slots) c.take_in.new.out _ c.self.invariant
    (here_out _ c.args.self.now.seen f.slot c.args.finished.1.slot f.ticket c.args.finished.1.ticket (seen_is c.self.view_is) (ap (λ x. x.1.slot)
    c.finished.view_is)
    (ap (λ x. x.1.ticket) c.finished.view_is) c.requires.out)
    (here_late _ c.args.self.now.seen f.slot c.args.finished.1.slot f.ticket c.args.finished.1.ticket (seen_is c.self.view_is) (ap (λ x. x.1.slot)
    c.finished.view_is)
    (ap (λ x. x.1.ticket) c.finished.view_is) c.requires.late)
    c.take_in.ensures.cards c.take_in.ensures.out
