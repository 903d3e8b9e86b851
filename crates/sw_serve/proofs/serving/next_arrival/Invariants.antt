use Rattle.std.proofs.Common.{◌≡◌}
use Rattle.sw_serve.proofs.serving.next_arrival.Given as goal

abbrev pub invariant-loop : goal.invariant-loop
invariant-loop g l = g.P.Port.taken l.port ≡ g.P.Port.taken l.fn.port
