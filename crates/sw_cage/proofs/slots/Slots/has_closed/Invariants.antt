use Rattle.std.proofs.Common.{◌≡◌, ◌≤◌, length, take}
use Rattle.std.specs.List.{filter}
use Rattle.sw_cage.specs.Accounts.{accounts_of, is_closed}
use Rattle.sw_cage.specs.Channels.{rows}
use Rattle.sw_cage.proofs.slots.Slots.has_closed.Given as goal

abbrev pub invariant-loop-before : goal.invariant-loop-before
invariant-loop-before g l = record {
  within : l.at ≤ length l.chans;
  kept : take l.at l.chans ≡ filter (is_closed (accounts_of l.self)) (rows l.before);
}
