use Rattle.std.proofs.Common.{◌≡◌, ◌<◌}
use Rattle.sw_workers.specs.Halves.{StayJoined}
use Rattle.sw_workers.proofs.AbortedLemmas.{IsGrown}
use Rattle.sw_workers.proofs.OpenedLemmas.{IsSoFar}
use Rattle.sw_workers.proofs.opening_relays.open_relays.Given as goal

-- the slots so far
abbrev pub invariant-loop-before : goal.invariant-loop-before
invariant-loop-before g l = record {
  so_far : IsSoFar l.fn.held.panel l.before l.held.panel;
  entries : IsGrown l.fn.held.panel l.fn.held.history l.before l.held.panel l.held.history;
  seen : 0 < l.before → l.part.seat.seen ≡ l.held.history;
  joined : StayJoined l.fn.held.panel l.held.panel;
}
