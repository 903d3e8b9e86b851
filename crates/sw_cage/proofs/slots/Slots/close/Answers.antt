use Rattle.std.proofs.Common.{◌-◌, refl, sym, ◌∙◌, ap, subst, map, true}
use Rattle.sw_cage.specs.Accounts.{OptionWellFormed, accounts_of, is_closed, with_chan}
use Rattle.sw_cage.specs.Claims.{AreClaimed, closed_claim}
use Rattle.sw_cage.proofs.OneSlotLemmas.{read, close_item}
use Rattle.sw_cage.proofs.ClaimedLemmas.{ok_is, err_is, claimed_seen, slots_set, claimed_closing, claimed_unclosed}
use Rattle.sw_cage.proofs.CardLemmas.{others_are, elsewhere_is, meters_written}
use Rattle.sw_cage.proofs.slots.Slots.close.Goals as goal

pub close_in-requires-clause-formed : goal.close_in-requires-clause-formed
close_in-requires-clause-formed g c = subst OptionWellFormed (read c.self.inside.slots.items _ c.slot.result c.index_mut.result.now refl
    c.self.invariant.safe.size c.slot.ensures.range.0 c.slot.ensures.range.1 c.index_mut.ensures.value) (c.self.invariant.safe.rows c.slot.result)

pub keep_closed-requires : goal.keep_closed-requires
keep_closed-requires g c = slots_set c.self.inside.slots.items c.deref.result.now (c.slot.result - 1) c.close_in.new.slot c.self.invariant.safe.size
    c.deref.ensures.value

pub invariant_of-self : goal.invariant_of-self
invariant_of-self g c = subst (AreClaimed _) (sym c.hold.ensures.held) (claimed_closing (accounts_of c.args.self.now) (with_chan (accounts_of c.args.self.now)
    c.args.chan true) _
    c.self.inside.claims c.group-group.result c.args.chan c.close_in.result _
    (claimed_seen c.self.inside.slots.items (accounts_of c.args.self.now) c.self.inside.claims (ap accounts_of c.self.view_is) c.self.invariant)
    c.group-group.ensures c.hold.ensures.room
    c.requires.apart (close_item c.self.inside.slots.items (accounts_of c.args.self.now) c.args.chan c.slot.result c.ch.result c.index_mut.result.now
    c.close_in.new.slot
    c.close_in.result c.slot.ensures.value c.ch.ensures.value c.slot.ensures.range.0 c.slot.ensures.range.1 (ap accounts_of c.self.view_is)
    c.self.invariant.safe
    c.index_mut.ensures.value c.requires.present c.requires.apart c.close_in.ensures.ok c.close_in.ensures.err) c.in-Ok.is)

pub returns-in-Ok-clause-ok : goal.returns-in-Ok-clause-ok
returns-in-Ok-clause-ok g c = ok_is c.close_in.result _ c.in-Ok.is
    ((close_item c.self.inside.slots.items (accounts_of c.args.self.now) c.args.chan c.slot.result c.ch.result c.index_mut.result.now c.close_in.new.slot
    c.close_in.result c.slot.ensures.value c.ch.ensures.value c.slot.ensures.range.0 c.slot.ensures.range.1 (ap accounts_of c.self.view_is)
    c.self.invariant.safe
    c.index_mut.ensures.value c.requires.present c.requires.apart c.close_in.ensures.ok c.close_in.ensures.err).ok)

pub invariant_of-self-in-Err : goal.invariant_of-self-in-Err
invariant_of-self-in-Err g c = subst (AreClaimed _)
    (sym (c.keep_closed.ensures ∙ ap (map (closed_claim (is_closed (accounts_of c.deref.result.now)))) c.hold.ensures.held))
    (claimed_unclosed (accounts_of c.args.self.now) (with_chan (accounts_of c.args.self.now) c.args.chan true) _ (accounts_of c.deref.result.now)
    c.self.inside.claims c.group-group.result c.args.chan c.close_in.result _
    (claimed_seen c.self.inside.slots.items (accounts_of c.args.self.now) c.self.inside.claims (ap accounts_of c.self.view_is) c.self.invariant)
    c.group-group.ensures c.hold.ensures.room
    c.requires.apart (close_item c.self.inside.slots.items (accounts_of c.args.self.now) c.args.chan c.slot.result c.ch.result c.index_mut.result.now
    c.close_in.new.slot
    c.close_in.result c.slot.ensures.value c.ch.ensures.value c.slot.ensures.range.0 c.slot.ensures.range.1 (ap accounts_of c.self.view_is)
    c.self.invariant.safe
    c.index_mut.ensures.value c.requires.present c.requires.apart c.close_in.ensures.ok c.close_in.ensures.err)
    c.in-Err.is (ap accounts_of c.deref.ensures.value))

pub returns-in-Err-clause-err : goal.returns-in-Err-clause-err
returns-in-Err-clause-err g c = err_is c.close_in.result _ c.in-Err.is
    ((close_item c.self.inside.slots.items (accounts_of c.args.self.now) c.args.chan c.slot.result c.ch.result c.index_mut.result.now c.close_in.new.slot
    c.close_in.result c.slot.ensures.value c.ch.ensures.value c.slot.ensures.range.0 c.slot.ensures.range.1 (ap accounts_of c.self.view_is)
    c.self.invariant.safe
    c.index_mut.ensures.value c.requires.present c.requires.apart c.close_in.ensures.ok c.close_in.ensures.err).err)

pub returns-in-Err-clause-disturbed : goal.returns-in-Err-clause-disturbed
returns-in-Err-clause-disturbed g c = err_is c.close_in.result _ c.in-Err.is
    ((close_item c.self.inside.slots.items (accounts_of c.args.self.now) c.args.chan c.slot.result c.ch.result c.index_mut.result.now c.close_in.new.slot
    c.close_in.result c.slot.ensures.value c.ch.ensures.value c.slot.ensures.range.0 c.slot.ensures.range.1 (ap accounts_of c.self.view_is)
    c.self.invariant.safe
    c.index_mut.ensures.value c.requires.present c.requires.apart c.close_in.ensures.ok c.close_in.ensures.err).disturbed)

pub returns-in-Ok-clause-meters : goal.returns-in-Ok-clause-meters
returns-in-Ok-clause-meters g c = meters_written c.self.inside.slots.items c.args.self.now c.slot.result c.index_mut.result.now c.close_in.new.slot
    c.self.view_is c.self.invariant.safe.size c.slot.ensures.range.0 c.slot.ensures.range.1 c.index_mut.ensures.value c.close_in.ensures.meter

pub returns-in-Err-clause-meters : goal.returns-in-Err-clause-meters
returns-in-Err-clause-meters g c = meters_written c.self.inside.slots.items c.args.self.now c.slot.result c.index_mut.result.now c.close_in.new.slot
    c.self.view_is c.self.invariant.safe.size c.slot.ensures.range.0 c.slot.ensures.range.1 c.index_mut.ensures.value c.close_in.ensures.meter

pub returns-in-Err-clause-others : goal.returns-in-Err-clause-others
returns-in-Err-clause-others g c = others_are c.self.inside.slots.items c.args.self.now c.slot.result c.args.chan.0 c.close_in.new.slot c.self.view_is
    c.self.invariant.safe.size c.slot.ensures.value c.slot.ensures.range.0 c.slot.ensures.range.1

pub returns-in-Ok-clause-elsewhere : goal.returns-in-Ok-clause-elsewhere
returns-in-Ok-clause-elsewhere g c slot far = elsewhere_is c.self.inside.slots.items c.args.self.now c.slot.result c.args.chan.0 c.close_in.new.slot
    c.self.view_is c.slot.ensures.value c.slot.ensures.range.0 slot far

pub returns-in-Err-clause-elsewhere : goal.returns-in-Err-clause-elsewhere
returns-in-Err-clause-elsewhere g c slot far = elsewhere_is c.self.inside.slots.items c.args.self.now c.slot.result c.args.chan.0 c.close_in.new.slot
    c.self.view_is c.slot.ensures.value c.slot.ensures.range.0 slot far

pub returns-in-Ok-clause-others : goal.returns-in-Ok-clause-others
returns-in-Ok-clause-others g c = others_are c.self.inside.slots.items c.args.self.now c.slot.result c.args.chan.0 c.close_in.new.slot c.self.view_is
    c.self.invariant.safe.size c.slot.ensures.value c.slot.ensures.range.0 c.slot.ensures.range.1
