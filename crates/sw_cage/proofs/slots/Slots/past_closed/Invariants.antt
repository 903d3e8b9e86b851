use Rattle.std.proofs.Common.{◌≤◌, ◌+◌, length, take}
use Rattle.std.specs.List.{filter}
use Rattle.sw_cage.specs.Accounts.{accounts_of, is_closed}
use Rattle.sw_cage.specs.Channels.{rows}
use Rattle.sw_cage.proofs.ClosedListLemmas.{Walked}
use Rattle.sw_cage.proofs.slots.Slots.past_closed.Given as goal

abbrev pub invariant-loop : goal.invariant-loop
invariant-loop g l = record {
  within : l.past ≤ length l.chans;
  walked : Walked (is_closed (accounts_of l.self)) (l.before + 1) l.left l.counter (filter (is_closed (accounts_of l.self)) (rows l.before)) (take l.past
      l.chans);
}
