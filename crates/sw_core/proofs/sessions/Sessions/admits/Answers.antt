use Rattle.std.proofs.Common.{length, sym, ◌∙◌, ap}
use Rattle.sw_core.specs.Sessions.{SessionsSeen}
use Rattle.sw_core.proofs.SeatingLemmas.{seated_number}
use Rattle.sw_core.proofs.sessions.Sessions.admits.Goals as goal

pub admits-requires : goal.admits-requires
admits-requires c = seated_number c.args.self.now c.args.sid (sym (ap (λ (s : SessionsSeen). length s.seats) c.self.view_is) ∙ c.self.invariant) c.requires
