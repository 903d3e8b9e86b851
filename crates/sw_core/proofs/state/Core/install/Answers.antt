use Rattle.std.proofs.Common.{arith, ap, ◌∙◌, is_some}
use Rattle.sw_cage.specs.Cage.{CageSeen}
use Rattle.sw_cage.specs.Change.{any_failed}
use Rattle.sw_core.specs.Panel.{Panel}
use Rattle.sw_core.proofs.CallsLemmas.{failed_come}
use Rattle.sw_core.proofs.state.Core.install.Goals as goal

pub returns-in-Ok-clause-acts : goal.returns-in-Ok-clause-acts
returns-in-Ok-clause-acts g c =
    rw (← c.self.view_is) (
      ap (λ (s : CageSeen). any_failed c.self.inside.cage.seen.cards s.cards) c.in-Ok.ensures.ok
          ∙ failed_come c.self.inside.cage.seen.cards c.args.slot _ (omega (arith, c.in-Ok.ensures.accepted.first)) c.in-Ok.ensures.accepted.empty,
      ap (λ s. is_some s) c.in-Ok.ensures.free.0,
      c.in-Ok.ensures.free.1,
      c.in-Ok.ensures.accepted,
      ap (λ (s : CageSeen). let p : Panel = record {
        cage = s;
        sessions = c.self.inside.sessions;
        status = c.self.inside.status;
        settings = c.self.inside.settings;
        opc_waits = c.self.inside.opc_waits;
        events = c.self.inside.events;
      } in p) c.in-Ok.ensures.ok,
    )
