use Rattle.sw_cage.specs.Accounts.{accounts_of, is_closed}
use Rattle.sw_cage.proofs.ClosedListLemmas.{Walked}
use Rattle.sw_cage.proofs.slots.Slots.push_closed.Given as goal

abbrev pub invariant-loop : goal.invariant-loop
invariant-loop g l = Walked (is_closed (accounts_of l.self)) l.slot l.left l.counter l.fn.chans.items l.chans.items
