use Rattle.std.proofs.Common.{◌≡◌}
use Rattle.std.specs.List.{filter}
use Rattle.sw_cage.specs.Accounts.{accounts_of, is_closed}
use Rattle.sw_cage.specs.Channels.{rows}
use Rattle.sw_cage.proofs.slots.Slots.closed_chans.Given as goal

abbrev pub invariant-loop-before : goal.invariant-loop-before
invariant-loop-before g l = l.chans.items ≡ filter (is_closed (accounts_of l.self)) (rows l.before)
