use Rattle.std.proofs.Common.{◌-◌, sym, ap, subst}
use Rattle.sw_cage.specs.Accounts.{accounts_of}
use Rattle.sw_cage.specs.Claims.{AreClaimed}
use Rattle.sw_cage.proofs.OneSlotLemmas.{open_item}
use Rattle.sw_cage.proofs.ClaimedLemmas.{ok_is, err_is, claimed_seen, slots_set, claimed_opening, claimed_unopened}
use Rattle.sw_cage.proofs.CardLemmas.{others_are, elsewhere_is, meters_written}
use Rattle.sw_cage.proofs.slots.Slots.open.Goals as goal

pub group-group-requires : goal.group-group-requires
group-group-requires g c = (claimed_seen c.self.inside.slots.items (accounts_of c.args.self.now) c.self.inside.claims (ap accounts_of c.self.view_is)
    c.self.invariant).safe.exclusive.present
    c.args.chan c.requires

pub keep_closed-requires : goal.keep_closed-requires
keep_closed-requires g c = slots_set c.self.inside.slots.items c.deref.result.now (c.slot.result - 1) c.open_in.new.slot c.self.invariant.safe.size
    c.deref.ensures.value

pub invariant_of-self : goal.invariant_of-self
invariant_of-self g c = subst (AreClaimed _) (sym c.release.ensures.released) (claimed_opening (accounts_of c.args.self.now) (accounts_of c.args.self.now) _
    c.self.inside.claims c.group-group.result c.args.chan c.open_in.result _
    (claimed_seen c.self.inside.slots.items (accounts_of c.args.self.now) c.self.inside.claims (ap accounts_of c.self.view_is) c.self.invariant)
    c.group-group.ensures c.release.ensures.room
    c.requires (open_item c.self.inside.slots.items (accounts_of c.args.self.now) c.args.chan c.slot.result c.ch.result c.index_mut.result.now
    c.open_in.new.slot
    c.open_in.result c.slot.ensures.value c.ch.ensures.value c.slot.ensures.range.0 c.slot.ensures.range.1 (ap accounts_of c.self.view_is) c.self.invariant.safe
    c.index_mut.ensures.value c.requires c.open_in.ensures.ok c.open_in.ensures.err) c.in-Ok.is)

pub returns-in-Ok-clause-ok : goal.returns-in-Ok-clause-ok
returns-in-Ok-clause-ok g c = ok_is c.open_in.result _ c.in-Ok.is
    ((open_item c.self.inside.slots.items (accounts_of c.args.self.now) c.args.chan c.slot.result c.ch.result c.index_mut.result.now c.open_in.new.slot
    c.open_in.result c.slot.ensures.value c.ch.ensures.value c.slot.ensures.range.0 c.slot.ensures.range.1 (ap accounts_of c.self.view_is) c.self.invariant.safe
    c.index_mut.ensures.value c.requires c.open_in.ensures.ok c.open_in.ensures.err).ok)

pub invariant_of-self-in-Err : goal.invariant_of-self-in-Err
invariant_of-self-in-Err g c = subst (AreClaimed _) (sym c.keep_closed.ensures)
    (claimed_unopened (accounts_of c.args.self.now) (accounts_of c.args.self.now) _ (accounts_of c.deref.result.now) c.self.inside.claims c.args.chan
    c.open_in.result _
    (claimed_seen c.self.inside.slots.items (accounts_of c.args.self.now) c.self.inside.claims (ap accounts_of c.self.view_is) c.self.invariant)
    c.requires (open_item c.self.inside.slots.items (accounts_of c.args.self.now) c.args.chan c.slot.result c.ch.result c.index_mut.result.now
    c.open_in.new.slot
    c.open_in.result c.slot.ensures.value c.ch.ensures.value c.slot.ensures.range.0 c.slot.ensures.range.1 (ap accounts_of c.self.view_is) c.self.invariant.safe
    c.index_mut.ensures.value c.requires c.open_in.ensures.ok c.open_in.ensures.err) c.in-Err.is (ap accounts_of c.deref.ensures.value))

pub returns-in-Err-clause-err : goal.returns-in-Err-clause-err
returns-in-Err-clause-err g c = err_is c.open_in.result _ c.in-Err.is
    ((open_item c.self.inside.slots.items (accounts_of c.args.self.now) c.args.chan c.slot.result c.ch.result c.index_mut.result.now c.open_in.new.slot
    c.open_in.result c.slot.ensures.value c.ch.ensures.value c.slot.ensures.range.0 c.slot.ensures.range.1 (ap accounts_of c.self.view_is) c.self.invariant.safe
    c.index_mut.ensures.value c.requires c.open_in.ensures.ok c.open_in.ensures.err).err)

pub returns-in-Err-clause-disturbed : goal.returns-in-Err-clause-disturbed
returns-in-Err-clause-disturbed g c = err_is c.open_in.result _ c.in-Err.is
    ((open_item c.self.inside.slots.items (accounts_of c.args.self.now) c.args.chan c.slot.result c.ch.result c.index_mut.result.now c.open_in.new.slot
    c.open_in.result c.slot.ensures.value c.ch.ensures.value c.slot.ensures.range.0 c.slot.ensures.range.1 (ap accounts_of c.self.view_is) c.self.invariant.safe
    c.index_mut.ensures.value c.requires c.open_in.ensures.ok c.open_in.ensures.err).disturbed)

pub returns-in-Ok-clause-meters : goal.returns-in-Ok-clause-meters
returns-in-Ok-clause-meters g c = meters_written c.self.inside.slots.items c.args.self.now c.slot.result c.index_mut.result.now c.open_in.new.slot
    c.self.view_is c.self.invariant.safe.size c.slot.ensures.range.0 c.slot.ensures.range.1 c.index_mut.ensures.value c.open_in.ensures.meter

pub returns-in-Err-clause-meters : goal.returns-in-Err-clause-meters
returns-in-Err-clause-meters g c = meters_written c.self.inside.slots.items c.args.self.now c.slot.result c.index_mut.result.now c.open_in.new.slot
    c.self.view_is c.self.invariant.safe.size c.slot.ensures.range.0 c.slot.ensures.range.1 c.index_mut.ensures.value c.open_in.ensures.meter

pub returns-in-Err-clause-others : goal.returns-in-Err-clause-others
returns-in-Err-clause-others g c = others_are c.self.inside.slots.items c.args.self.now c.slot.result c.args.chan.0 c.open_in.new.slot c.self.view_is
    c.self.invariant.safe.size c.slot.ensures.value c.slot.ensures.range.0 c.slot.ensures.range.1

pub returns-in-Ok-clause-elsewhere : goal.returns-in-Ok-clause-elsewhere
returns-in-Ok-clause-elsewhere g c slot far = elsewhere_is c.self.inside.slots.items c.args.self.now c.slot.result c.args.chan.0 c.open_in.new.slot
    c.self.view_is c.slot.ensures.value c.slot.ensures.range.0 slot far

pub returns-in-Err-clause-elsewhere : goal.returns-in-Err-clause-elsewhere
returns-in-Err-clause-elsewhere g c slot far = elsewhere_is c.self.inside.slots.items c.args.self.now c.slot.result c.args.chan.0 c.open_in.new.slot
    c.self.view_is c.slot.ensures.value c.slot.ensures.range.0 slot far
