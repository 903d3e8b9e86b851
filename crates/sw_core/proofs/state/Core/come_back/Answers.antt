use Rattle.sw_cage.specs.TakenSeen.{taken_seen}
use Rattle.sw_core.specs.Panel.{Panel}
use Rattle.sw_core.specs.Seen.{work_seen}
use Rattle.sw_core.proofs.BroughtLemmas.{returned_brings}
use Rattle.sw_core.proofs.state.Core.come_back.Goals as goal

pub returns-clause-brings : goal.returns-clause-brings
returns-clause-brings g c =
    let p : Panel = record {
      cage = c.self.inside.cage.seen;
      sessions = c.self.inside.sessions;
      status = c.self.inside.status;
      settings = c.self.inside.settings;
      opc_waits = c.self.inside.opc_waits;
      events = c.self.inside.events;
    } in
    rw (← c.self.view_is) (returned_brings p c.conclude.new.self.seen c.args.done.1 (taken_seen c.in-Ok.said) c.finish.new.self.seen c.report_fault.new.status
    (work_seen c.conclude.new.work) c.finish.ensures.told c.in-Ok.ensures.in_slot c.in-Ok.ensures.late c.in-Ok.ensures.taken c.in-Ok.ensures.takes c.report_fault.ensures
    c.conclude.ensures.ended c.conclude.ensures.brings)
