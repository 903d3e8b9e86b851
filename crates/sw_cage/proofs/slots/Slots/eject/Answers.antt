use Rattle.std.proofs.Common.{◌-◌, sym, ◌∙◌, subst, rules, ap}
use Rattle.sw_cage.specs.Accounts.{accounts_of}
use Rattle.sw_cage.specs.Claims.{AreClaimed}
use Rattle.sw_cage.proofs.OneSlotLemmas.{ejected_card, ejected_open, ejected_some, emptied}
use Rattle.sw_cage.proofs.ClaimedLemmas.{slots_set, claimed_ejected}
use Rattle.sw_cage.proofs.CardLemmas.{ejected_meter}
use Rattle.sw_cage.proofs.slots.Slots.eject.Goals as goal

pub keep_closed-requires : goal.keep_closed-requires
keep_closed-requires g c = slots_set c.self.inside.slots.items c.deref.result.now (c.args.slot - 1) c.take_rested.new.slot c.self.invariant.safe.size
    c.deref.ensures.value

pub invariant_of-self : goal.invariant_of-self
invariant_of-self g c = subst (AreClaimed _) (sym c.keep_closed.ensures) (claimed_ejected c.self.inside.slots.items c.deref.result.now (accounts_of
    c.args.self.now)
    c.args.slot c.take_rested.new.slot c.self.inside.claims (ap accounts_of c.self.view_is) c.self.invariant (search rules) c.take_rested.ensures.empty
    c.deref.ensures.value)

pub returns-clause-ok : goal.returns-clause-ok
returns-clause-ok g c = ejected_card c.self.inside.slots.items (accounts_of c.args.self.now) c.args.slot c.index_mut.result.now c.in-Some.card.1 (ap
    accounts_of c.self.view_is)
    c.self.invariant.safe (search rules) c.index_mut.ensures.value c.in-Some.ensures.card

pub returns-clause-emptied : goal.returns-clause-emptied
returns-clause-emptied g c = emptied c.self.inside.slots.items (accounts_of c.args.self.now) _ c.take_rested.new.slot (ap accounts_of c.self.view_is)
    c.take_rested.ensures.empty

pub returns-clause-open : goal.returns-clause-open
returns-clause-open g c ch = ejected_open c.index_mut.result.now c.in-Some.card.1 c.in-Some.ensures.card ch

pub unreachable-requires : goal.unreachable-requires
unreachable-requires g c = ejected_some c.self.inside.slots.items (accounts_of c.args.self.now) c.args.slot c.index_mut.result.now c.take_rested.result (ap
    accounts_of c.self.view_is)
    c.self.invariant.safe (sym c.has_card.ensures ∙ c.if-not-has_card.false) c.index_mut.ensures.value c.take_rested.ensures.card c.in-None.is

pub returns-clause-meter : goal.returns-clause-meter
returns-clause-meter g c h = ejected_meter c.self.inside.slots.items c.args.self.now c.args.slot c.index_mut.result.now c.in-Some.card c.self.view_is
    c.self.invariant.safe (sym c.has_card.ensures ∙ c.if-not-has_card.false) c.index_mut.ensures.value c.in-Some.ensures.meter h
