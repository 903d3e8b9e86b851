use Rattle.std.proofs.Common.{Bool, sym, ap, ◌∙◌}
use Rattle.std.specs.Prelude.{if◌then◌else◌}
use Rattle.sw_cage.specs.TakenSeen.{taken_seen}
use Rattle.sw_cage.proofs.CardLemmas.{seen_is}
use Rattle.sw_core.specs.Panel.{Panel}
use Rattle.sw_core.specs.Registers.{card_fault_reported}
use Rattle.sw_core.proofs.HappenedLemmas.{happened}
use Rattle.sw_core.proofs.state.Core.happens.Goals as goal

pub returns-else-tells_fault-clause-step : goal.returns-else-tells_fault-clause-step
returns-else-tells_fault-clause-step g c =
    let p : Panel = record {
      cage = c.self.inside.cage.seen;
      sessions = c.self.inside.sessions;
      status = c.self.inside.status;
      settings = c.self.inside.settings;
      opc_waits = c.self.inside.opc_waits;
      events = c.self.inside.events;
    } in
    let whole = sym (ap (λ (b : Bool). if b then card_fault_reported p.status else p.status) (sym c.tells_fault.ensures ∙ c.if-tells_fault.false)) in
    rw (← c.self.view_is) (happened p c.args.happening (taken_seen c.take-told.result) c.take-told.new.self.seen p.status (λ no. let
    k = c.take-told.ensures.ignored no in (k.0, seen_is k.1))
    c.take-told.ensures.taken c.take-told.ensures.takes whole)

pub returns-then-tells_fault-clause-step : goal.returns-then-tells_fault-clause-step
returns-then-tells_fault-clause-step g c =
    let p : Panel = record {
      cage = c.self.inside.cage.seen;
      sessions = c.self.inside.sessions;
      status = c.self.inside.status;
      settings = c.self.inside.settings;
      opc_waits = c.self.inside.opc_waits;
      events = c.self.inside.events;
    } in
    let whole = c.report_card_fault.ensures
    ∙ sym (ap (λ (b : Bool). if b then card_fault_reported p.status else p.status) (sym c.tells_fault.ensures ∙ c.if-tells_fault.true)) in
    rw (← c.self.view_is) (happened p c.args.happening (taken_seen c.take-told.result) c.take-told.new.self.seen c.report_card_fault.new.status
    (λ no. let k = c.take-told.ensures.ignored no in (k.0, seen_is k.1)) c.take-told.ensures.taken c.take-told.ensures.takes whole)
