use Rattle.std.proofs.Common.{◌≡◌, ◌*◌, ◌^◌, ◌<◌}
use Rattle.sw_base.proofs.number.with_zeros.Given as goal

abbrev pub invariant-loop : goal.invariant-loop
invariant-loop l = record { some : 0 < l.n; product : l.product ≡ l.n * 10 ^ l.counter }
