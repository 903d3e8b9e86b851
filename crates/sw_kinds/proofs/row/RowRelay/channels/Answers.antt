use Rattle.std.proofs.Common.{sym}
use Rattle.sw_card.proofs.Masks.{length-states}
use Rattle.sw_kinds.proofs.row.RowRelay.channels.Goals as goal

pub returns-clause-closed : goal.returns-clause-closed
returns-clause-closed g c = rw (← c.self.view_is) (sym (length-states c.self.inside.closed c.self.inside.channels))
