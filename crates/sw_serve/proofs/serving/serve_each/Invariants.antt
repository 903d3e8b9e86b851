use Rattle.std.proofs.Common.{◌≡◌, ◌+◌}
use Rattle.sw_serve.proofs.serving.serve_each.Given as goal

abbrev pub invariant-loop-number : goal.invariant-loop-number
invariant-loop-number g l = g.P.Port.taken l.port ≡ g.P.Port.taken l.fn.port + l.number
