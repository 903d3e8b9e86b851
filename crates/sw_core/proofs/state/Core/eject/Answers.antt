use Rattle.std.proofs.Common.{ap, ◌∙◌}
use Rattle.sw_cage.specs.Cage.{CageSeen}
use Rattle.sw_cage.specs.Change.{any_failed}
use Rattle.sw_cage.proofs.SlotChangeLemmas.{slot_rest}
use Rattle.sw_status.specs.StatusModel.{StatusSeen}
use Rattle.sw_core.specs.Panel.{Panel}
use Rattle.sw_core.specs.Registers.{card_fault_cleared}
use Rattle.sw_core.proofs.CallsLemmas.{failed_ejected}
use Rattle.sw_core.proofs.state.Core.eject.Goals as goal

pub returns-in-Ok-clause-acts : goal.returns-in-Ok-clause-acts
returns-in-Ok-clause-acts g c =
    let cage = ap (λ (s : CageSeen). let p : Panel = record {
      cage = s;
      sessions = c.self.inside.sessions;
      status = card_fault_cleared c.self.inside.status;
      settings = c.self.inside.settings;
      opc_waits = c.self.inside.opc_waits;
      events = c.self.inside.events;
    } in p) c.in-Ok.ensures.taken in
    let told = ap (λ (s : StatusSeen). let p : Panel = record {
      cage = c.eject.new.self.seen;
      sessions = c.self.inside.sessions;
      status = s;
      settings = c.self.inside.settings;
      opc_waits = c.self.inside.opc_waits;
      events = c.self.inside.events;
    } in p) c.clear_card_fault.ensures in
    rw (← c.self.view_is) (
      ap (λ (s : CageSeen). any_failed c.self.inside.cage.seen.cards s.cards) c.in-Ok.ensures.taken ∙ failed_ejected c.self.inside.cage.seen c.args.slot,
      c.in-Ok.ensures.home,
      slot_rest c.self.inside.cage.seen.cards c.args.slot ∙ c.in-Ok.ensures.ok,
      told ∙ cage,
    )
