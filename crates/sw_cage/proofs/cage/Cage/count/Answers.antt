use Rattle.std.proofs.Common.{◌+◌, ◌<◌, ◌≤◌, ap, subst, refl, Option, arith, length, vec_capacity}
use Rattle.sw_trigger.specs.Counts.{reads}
use Rattle.sw_cage.specs.Accounts.{accounts_of}
use Rattle.sw_cage.specs.Cage.{ScanSeen}
use Rattle.sw_cage.specs.Takes.{TakesReturnThere}
use Rattle.sw_cage.proofs.CardLemmas.{seen_is}
use Rattle.sw_cage.proofs.HappeningLemmas.{kept_failed, here_out, here_taken, taken_scan, room_for, room_at, counted, may_go, go_kept}
use Rattle.sw_cage.proofs.cage.Cage.count.Goals as goal

pub invariant_of-self : goal.invariant_of-self
invariant_of-self g c =
    let f = c.finished.inside in
    let slot = ap (λ x. x.1.slot) c.finished.view_is in
    let ticket = ap (λ x. x.1.ticket) c.finished.view_is in
    let out = here_out _ c.args.self.now.seen f.slot c.args.finished.1.slot f.ticket c.args.finished.1.ticket (seen_is c.self.view_is) slot ticket
    c.requires.out in
    kept_failed _ f.slot f.ticket f.meter.1 (accounts_of c.take_in.new.slots) (accounts_of c.open_all.new.self) c.take_in.new.out _ c.self.invariant out
    c.take_in.ensures.cards
    c.take_in.ensures.out c.open_all.ensures.open

pub push_reserved-requires : goal.push_reserved-requires
push_reserved-requires g c =
    let f = c.finished.inside in
    let slot = ap (λ x. x.1.slot) c.finished.view_is in
    let ticket = ap (λ x. x.1.ticket) c.finished.view_is in
    let out = here_out _ c.args.self.now.seen f.slot c.args.finished.1.slot f.ticket c.args.finished.1.ticket (seen_is c.self.view_is) slot ticket
    c.requires.out in
    let taken = here_taken _ c.args.self.now.seen f.slot c.args.finished.1.slot f.ticket c.args.finished.1.ticket (seen_is c.self.view_is) slot ticket
    c.requires.taken in
    let room : length c.self.inside.readings.items < vec_capacity c.self.inside.readings = room_for _ f.slot f.ticket _ c.self.invariant taken in
    omega (arith, room, c.self.inside.readings.ok.0)

pub go_past-requires-clause-may : goal.go_past-requires-clause-may
go_past-requires-clause-may g c = λ at is.
    let f = c.finished.inside in
    let slot = ap (λ x. x.1.slot) c.finished.view_is in
    let ticket = ap (λ x. x.1.ticket) c.finished.view_is in
    let out = here_out _ c.args.self.now.seen f.slot c.args.finished.1.slot f.ticket c.args.finished.1.ticket (seen_is c.self.view_is) slot ticket
    c.requires.out in
    let taken = here_taken _ c.args.self.now.seen f.slot c.args.finished.1.slot f.ticket c.args.finished.1.ticket (seen_is c.self.view_is) slot ticket
    c.requires.taken in
    let awaited = subst (λ (o : Option ScanSeen). TakesReturnThere c.self.inside.number o f.slot f.ticket) is taken in
    let items = c.push_reserved.ensures.items in
    let ready = counted _ at f.slot f.ticket f.meter.1 c.in-Ok.reading (accounts_of c.take_in.new.slots) c.take_in.new.out c.push_reserved.new.self.items _
    c.self.invariant is awaited
    out c.take_in.ensures.cards c.take_in.ensures.out items in
    may_go _ at.course (at.index + 1) ready.held ready.go

pub invariant_of-self-2 : goal.invariant_of-self-2
invariant_of-self-2 g c =
    let f = c.finished.inside in
    let slot = ap (λ x. x.1.slot) c.finished.view_is in
    let ticket = ap (λ x. x.1.ticket) c.finished.view_is in
    let out = here_out _ c.args.self.now.seen f.slot c.args.finished.1.slot f.ticket c.args.finished.1.ticket (seen_is c.self.view_is) slot ticket
    c.requires.out in
    let taken = here_taken _ c.args.self.now.seen f.slot c.args.finished.1.slot f.ticket c.args.finished.1.ticket (seen_is c.self.view_is) slot ticket
    c.requires.taken in
    let runs = taken_scan _ _ f.slot f.ticket taken in
    let at = runs.0 in
    let is = runs.1.0 in
    let awaited = runs.1.1 in
    let items = c.push_reserved.ensures.items in
    let ready = counted _ at f.slot f.ticket f.meter.1 c.in-Ok.reading (accounts_of c.take_in.new.slots) c.take_in.new.out c.push_reserved.new.self.items _
    c.self.invariant is awaited
    out c.take_in.ensures.cards c.take_in.ensures.out items in
    let room : reads at.course.items ≤ vec_capacity c.push_reserved.new.self =
    omega (arith, room_at _ at _ c.self.invariant is, c.push_reserved.ensures.capacity) in
    go_kept _ _ at.course (at.index + 1) _ _ ready.held ready.go room (c.go_past.ensures.goes at is) refl refl
