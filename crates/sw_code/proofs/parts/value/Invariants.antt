use Rattle.std.proofs.Common.{◌≡◌, ◌<◌, ◌^◌, drop}
use Rattle.sw_base.specs.Number.{value_after, value_of}
use Rattle.sw_code.proofs.parts.value.Given as goal

abbrev pub invariant-loop-d : goal.invariant-loop-d
invariant-loop-d l = record { small : l.n < 10 ^ l.d-index; rest : value_after l.n (drop l.d-index l.digits) ≡ value_of l.digits }
