use Rattle.std.proofs.Common.{◌+◌, ◌<◌, List, ◌∷◌, length, drop, sym, subst}
use Rattle.sw_code.specs.declared.code.Step.{Step}
use Rattle.sw_code.specs.Pace.{IsNear}
use Rattle.sw_verify.specs.Items.{items_of}
use Rattle.sw_cage.specs.Cage.{ScanSeen}
use Rattle.sw_cage.specs.Steps.{Does}
use Rattle.sw_cage.proofs.PlaceLemmas.{item_there}
use Rattle.sw_cage.proofs.scan.Scan.go_past.Goals as goal

pub go_past-requires-clause-left : goal.go_past-requires-clause-left
go_past-requires-clause-left c =
    let s = c.self.inside in
    let items = items_of s.code.steps in
    let r = item_there items s.index (subst (λ (p : ScanSeen). p.index < length p.course.items) (sym c.self.view_is) c.requires) in (
      r.0,
      drop (s.index + 1) items,
      subst (λ (l : List Step). Does l s.at (r.0 ∷ drop (s.index + 1) items)) (sym c.steps.ensures.steps)
          (subst (Does s.code.steps s.at) r.1 c.self.invariant.does),
    )

pub invariant_of-self : goal.invariant_of-self
invariant_of-self c =
    let s = c.self.inside in
    let items = items_of s.code.steps in
    let r = item_there items s.index (subst (λ (p : ScanSeen). p.index < length p.course.items) (sym c.self.view_is) c.requires) in
    let here = subst (λ (l : List Step). Does l s.at (r.0 ∷ drop (s.index + 1) items)) (sym c.steps.ensures.steps)
    (subst (Does s.code.steps s.at) r.1 c.self.invariant.does) in
    record {
      runs = c.self.invariant.runs;
      does = subst (λ (l : List Step). Does l c.go_past.new.at (drop (s.index + 1) items)) c.steps.ensures.steps
          (c.go_past.ensures.does r.0 (drop (s.index + 1) items) here);
      near = subst (λ (l : List Step). IsNear l 0 c.go_past.new.at.step) c.steps.ensures.steps c.go_past.ensures.near;
    }
