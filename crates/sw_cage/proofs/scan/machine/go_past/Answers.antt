use Rattle.std.proofs.Common.{◌≡◌, ◌+◌, subst}
use Rattle.sw_cage.specs.Accounts.{accounts_of, layout_of, is_closed}
use Rattle.sw_cage.specs.Cage.{ScanSeen}
use Rattle.sw_cage.specs.Moves.{MayGoOn}
use Rattle.sw_cage.proofs.PlaceLemmas.{awaited_within}
use Rattle.sw_cage.proofs.scan.machine.go_past.Goals as goal

pub go_past-requires : goal.go_past-requires
go_past-requires g c = awaited_within c.in-Some.at.course.items c.in-Some.at.index (c.requires.awaits c.in-Some.at c.in-Some.is)

pub go_on-requires-clause-may : goal.go_on-requires-clause-may
go_on-requires-clause-may g c = λ at is.
    let from = c.in-Some.at in
    let past : ScanSeen = record from { index = from.index + 1 } in
    let e : past ≡ at = cc (c.go_past.ensures, is) in
    let rack = accounts_of c.args.slots.now in
    subst (λ (x : ScanSeen). MayGoOn (layout_of rack) (is_closed rack) x.course x.index) e (c.requires.may from c.in-Some.is)
