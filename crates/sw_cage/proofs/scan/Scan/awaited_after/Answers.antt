use Rattle.std.proofs.Common.{◌≡◌, ◌+◌, ◌<◌, List, ◌∷◌, length, drop, Option, None, Some, sym, ap, ◌∙◌, subst}
use Rattle.sw_code.specs.declared.code.Step.{Step}
use Rattle.sw_verify.specs.Items.{items_of}
use Rattle.sw_trigger.specs.declared.layer.Awaited.{Awaited}
use Rattle.sw_cage.specs.Advance.{first_awaited, awaits}
use Rattle.sw_cage.specs.Cage.{ScanSeen}
use Rattle.sw_cage.specs.Steps.{Does}
use Rattle.sw_cage.specs.Takes.{behind}
use Rattle.sw_cage.proofs.PlaceLemmas.{item_there, awaited_within}
use Rattle.sw_cage.proofs.scan.Scan.awaited_after.Goals as goal

pub returns : goal.returns
returns c =
    let s = c.self.inside in
    let now = c.args.self.now in
    let items = items_of s.code.steps in
    let some : awaits now ≡ Some c.in_ok-awaited.field-0 = sym c.awaited.ensures ∙ c.in_ok-awaited.was in
    let here : first_awaited (drop s.index items) ≡ Some c.in_ok-awaited.field-0 = ap (λ (p : ScanSeen). awaits p) c.self.view_is ∙ some in
    let within : s.index < length items = awaited_within items s.index (λ none. cc) in
    let r = item_there items s.index within in
    let stands = subst (λ (l : List Step). Does l s.at (r.0 ∷ drop (s.index + 1) items)) (sym c.steps.ensures.steps)
    (subst (Does s.code.steps s.at) r.1 c.self.invariant.does) in
    let past = subst (λ (l : List Step). Does l c.go_past.new.at (drop (s.index + 1) items)) (c.steps.ensures.steps ∙ sym c.steps-2.ensures.steps)
    (c.go_past.ensures.does r.0 (drop (s.index + 1) items) stands) in
    let next : Option Awaited = first_awaited (drop (now.index + 1) now.course.items) in
    c.awaited-2.ensures (drop (s.index + 1) items) past ∙ ap (λ (p : ScanSeen). first_awaited (drop (p.index + 1) p.course.items)) c.self.view_is
    ∙ ap (λ (o : Option Awaited). behind o next) (sym some)
