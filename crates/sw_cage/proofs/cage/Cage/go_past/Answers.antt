use Rattle.std.proofs.Common.{◌+◌, ◌∙◌, sym, ap, subst, refl}
use Rattle.sw_cage.specs.Cage.{CageSeen}
use Rattle.sw_cage.specs.Takes.{AwaitsOther}
use Rattle.sw_cage.proofs.CardLemmas.{seen_is}
use Rattle.sw_cage.proofs.HappeningLemmas.{may_go, go_kept, go_other, other_scan, room_at}
use Rattle.sw_cage.proofs.cage.Cage.go_past.Goals as goal

pub go_past-requires-clause-may : goal.go_past-requires-clause-may
go_past-requires-clause-may g c = λ at is.
    let other = subst AwaitsOther (sym (ap (λ (p : CageSeen). p.scan) (seen_is c.self.view_is)) ∙ is) c.requires in
    may_go _ at.course (at.index + 1) c.self.invariant.good.held (go_other _ at _ c.self.invariant is other)

pub invariant_of-self : goal.invariant_of-self
invariant_of-self g c =
    let runs = other_scan _ (subst AwaitsOther (sym (ap (λ (p : CageSeen). p.scan) (seen_is c.self.view_is))) c.requires) in
    let at = runs.0 in
    let is = runs.1.0 in
    go_kept _ _ at.course (at.index + 1) _ _ c.self.invariant.good.held (go_other _ at _ c.self.invariant is runs.1.1)
    (room_at _ at _ c.self.invariant is) (c.go_past.ensures.goes at is) refl refl
