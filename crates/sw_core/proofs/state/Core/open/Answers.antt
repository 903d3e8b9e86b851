use Rattle.std.proofs.Common.{ap, sym, ◌∙◌}
use Rattle.sw_cage.specs.Cage.{CageSeen}
use Rattle.sw_status.specs.StatusModel.{StatusSeen}
use Rattle.sw_core.specs.Panel.{Panel}
use Rattle.sw_core.specs.Registers.{card_fault_reported}
use Rattle.sw_core.proofs.CallsLemmas.{failed_sets, fallen, fallen_cage}
use Rattle.sw_core.proofs.state.Core.open.Goals as goal

pub returns-in-Ok-clause-step : goal.returns-in-Ok-clause-step
returns-in-Ok-clause-step g c =
    let cage = ap (λ (s : CageSeen). let p : Panel = record {
      cage = s;
      sessions = c.self.inside.sessions;
      status = c.self.inside.status;
      settings = c.self.inside.settings;
      opc_waits = c.self.inside.opc_waits;
      events = c.self.inside.events;
    } in p) c.open_listed.ensures.rest in
    rw (← c.self.view_is) (failed_sets _ _ _ _ c.in-Ok.ensures.ok, sym c.all_present.ensures ∙ c.if-not-all_present.false, c.in-Ok.ensures.ok, cage)

pub returns-in-Err-clause-step : goal.returns-in-Err-clause-step
returns-in-Err-clause-step g c =
    let f = fallen c.self.inside.cage.seen.cards c.open_listed.new.self.seen.cards c.open_all.new.self.seen.cards c.args.chans.now c.in-Err.ensures.err (ap
    (λ (s : CageSeen).
    s.cards) c.open_all.ensures.open) in
    let told = ap (λ (s : StatusSeen). let p : Panel = record {
      cage = c.open_all.new.self.seen;
      sessions = c.self.inside.sessions;
      status = s;
      settings = c.self.inside.settings;
      opc_waits = c.self.inside.opc_waits;
      events = c.self.inside.events;
    } in p) c.report_card_fault.ensures in
    let cage = ap (λ (s : CageSeen). let p : Panel = record {
      cage = s;
      sessions = c.self.inside.sessions;
      status = card_fault_reported c.self.inside.status;
      settings = c.self.inside.settings;
      opc_waits = c.self.inside.opc_waits;
      events = c.self.inside.events;
    } in
    p) (fallen_cage c.self.inside.cage.seen c.open_listed.new.self.seen c.open_all.new.self.seen c.open_listed.ensures.rest c.open_all.ensures.open) in
    rw (← c.self.view_is) (f.0, sym c.all_present.ensures ∙ c.if-not-all_present.false, (f.1, told ∙ cage))
