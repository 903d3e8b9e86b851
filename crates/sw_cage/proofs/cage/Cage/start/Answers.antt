use Rattle.std.proofs.Common.{◌≡◌, ◌≤◌, ◌+◌, ◌∙◌, ap, sym, subst, refl, arith, vec_capacity}
use Rattle.sw_base.specs.Layout.{slot_at, has_meter}
use Rattle.sw_trigger.specs.Counts.{reads}
use Rattle.sw_verify.specs.Channels.{is_among}
use Rattle.sw_verify.specs.Sound.{IsSound}
use Rattle.sw_cage.specs.Accounts.{accounts_of, layout_of, is_closed}
use Rattle.sw_cage.specs.Channels.{closed_list}
use Rattle.sw_cage.specs.Cage.{ScanSeen, CageSeen, cage_layout}
use Rattle.sw_cage.specs.Advance.{moves_from, next_place}
use Rattle.sw_cage.specs.Moves.{MayGoOn}
use Rattle.sw_cage.specs.Change.{any_failed}
use Rattle.sw_cage.specs.Outcome.{Occupancy, Advances, begun}
use Rattle.sw_cage.specs.TakenSeen.{taken_seen}
use Rattle.sw_cage.proofs.CardLemmas.{seen_is}
use Rattle.sw_cage.proofs.HappeningLemmas.{begins, may_go, goes_from, go_kept}
use Rattle.sw_cage.proofs.FailureLemmas.{failed_runs}
use Rattle.sw_cage.proofs.cage.Cage.start.Goals as goal

pub go_on-taken-requires-clause-may : goal.go_on-taken-requires-clause-may
go_on-taken-requires-clause-may g c = λ there is.
    let s = c.args.course in
    let seen = seen_is c.self.view_is in
    let rack = accounts_of c.self.inside.slots in
    let go = begins _ s (c.self.inside.number + 1) c.in_ok-readings.readings.items c.self.invariant.good.held c.begin.ensures.slot_in
    (ap (λ (p : CageSeen). slot_at p.out s.meter) seen ∙ c.requires.home) (ap (λ (p : CageSeen). has_meter (cage_layout p) s.meter) seen ∙ c.requires.measured)
    (subst (λ (p : CageSeen). IsSound (cage_layout p) (is_among (closed_list p.cards)) s.points s.items) (sym seen) c.requires.sound) c.stay_safe.ensures.range
    refl c.in_ok-readings.ensures.items in
    let from : ScanSeen = record { course = s; index = 0 } in
    let here : there ≡ from = cc (is, c.begin.ensures.scan) in
    subst (λ (x : ScanSeen). MayGoOn (layout_of rack) (is_closed rack) x.course x.index) (sym here) (may_go _ s 0 go.held go.go)

pub invariant_of-self : goal.invariant_of-self
invariant_of-self g c = rw c.in_err-readings.ensures.same c.self.invariant

pub invariant_of-self-2 : goal.invariant_of-self-2
invariant_of-self-2 g c =
    let s = c.args.course in
    let seen = seen_is c.self.view_is in
    let go = begins _ s (c.self.inside.number + 1) c.in_ok-readings.readings.items c.self.invariant.good.held c.begin.ensures.slot_in
    (ap (λ (p : CageSeen). slot_at p.out s.meter) seen ∙ c.requires.home) (ap (λ (p : CageSeen). has_meter (cage_layout p) s.meter) seen ∙ c.requires.measured)
    (subst (λ (p : CageSeen). IsSound (cage_layout p) (is_among (closed_list p.cards)) s.points s.items) (sym seen) c.requires.sound) c.stay_safe.ensures.range
    refl c.in_ok-readings.ensures.items in
    let room : reads s.items ≤ vec_capacity c.in_ok-readings.readings = omega (arith, c.in_ok-readings.ensures.enough, c.readings.ensures.readings) in
    let old : Occupancy = record { cards = (accounts_of c.self.inside.slots); out = c.self.inside.out } in
    let new : Occupancy = record { cards = (accounts_of c.go_on-taken.new.slots); out = c.go_on-taken.new.out } in
    go_kept _ _ s 0 _ _ go.held go.go room (goes_from old new (c.self.inside.number + 1) c.begin.result _ (taken_seen c.go_on-taken.result)
    c.go_on-taken.new.scan c.begin.ensures.scan (c.go_on-taken.ensures.goes c.begin.result refl)) refl refl

pub returns-clause-failed : goal.returns-clause-failed
returns-clause-failed g c =
    let old : Occupancy = record { cards = (accounts_of c.self.inside.slots); out = c.self.inside.out } in
    let new : Occupancy = record { cards = (accounts_of c.go_on-taken.new.slots); out = c.go_on-taken.new.out } in
    let at = c.begin.result in
    sym (failed_runs old new (c.self.inside.number + 1) (moves_from at.course at.index) (next_place at.course at.index) (taken_seen c.go_on-taken.result)
    c.go_on-taken.new.scan (c.go_on-taken.ensures.goes at refl))
    ∙ ap (λ (p : CageSeen). any_failed p.cards (accounts_of c.go_on-taken.new.slots)) (seen_is c.self.view_is)

pub returns-clause-ok : goal.returns-clause-ok
returns-clause-ok g c =
    let s = c.args.course in
    let old : Occupancy = record { cards = (accounts_of c.self.inside.slots); out = c.self.inside.out } in
    let new : Occupancy = record { cards = (accounts_of c.go_on-taken.new.slots); out = c.go_on-taken.new.out } in
    let q : CageSeen = record {
      cards = accounts_of c.go_on-taken.new.slots;
      out = c.go_on-taken.new.out;
      number = c.self.inside.number + 1;
      scan = c.go_on-taken.new.scan;
      readings = c.in_ok-readings.readings.items;
    } in
    subst (λ (p : CageSeen). Advances (begun p) s 0 (taken_seen c.go_on-taken.result) q) (seen_is c.self.view_is) (record {
      runs = goes_from old new (c.self.inside.number + 1) c.begin.result _ (taken_seen c.go_on-taken.result) c.go_on-taken.new.scan c.begin.ensures.scan
          (c.go_on-taken.ensures.goes c.begin.result refl);
      number = refl;
      readings = c.in_ok-readings.ensures.items;
    })
