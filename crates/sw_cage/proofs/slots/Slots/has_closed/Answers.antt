use Rattle.std.proofs.Common.{sym, arith}
use Rattle.sw_cage.specs.Accounts.{accounts_of, is_closed}
use Rattle.sw_cage.proofs.ClosedListLemmas.{rows_start}
use Rattle.sw_cage.proofs.slots.Slots.has_closed.Goals as goal

pub loop-before-init : goal.loop-before-init
loop-before-init g c = record { within = omega arith; kept = sym (rows_start (is_closed (accounts_of c.args.self.now))) }
