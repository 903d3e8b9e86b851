use Rattle.std.proofs.Common.{ap}
use Rattle.sw_cage.specs.Accounts.{accounts_of}
use Rattle.sw_cage.proofs.OneSlotLemmas.{emptied}
use Rattle.sw_cage.proofs.ClaimedLemmas.{claimed_taken}
use Rattle.sw_cage.proofs.slots.Slots.take_meter.Goals as goal

pub invariant_of-self : goal.invariant_of-self
invariant_of-self g c = claimed_taken c.self.inside.slots.items (accounts_of c.args.self.now) c.args.slot c.take_meter.new.slot c.self.inside.claims (ap
    accounts_of c.self.view_is)
    c.self.invariant c.requires.slot_in.0 c.requires.slot_in.1 c.take_meter.ensures.empty c.requires.meter

pub returns-clause-emptied : goal.returns-clause-emptied
returns-clause-emptied g c = emptied c.self.inside.slots.items (accounts_of c.args.self.now) _ c.take_meter.new.slot (ap accounts_of c.self.view_is)
    c.take_meter.ensures.empty
