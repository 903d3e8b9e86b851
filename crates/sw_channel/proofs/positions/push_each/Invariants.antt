use Rattle.std.proofs.Common.{◌≡◌, ◌++◌, map, List}
use Rattle.std.specs.Prelude.{IfOk}
use Rattle.std.specs.List.{range_with_len}
use Rattle.sw_channel.specs.Meaning.{towards}
use Rattle.sw_channel.specs.Positions.{Position, alone}
use Rattle.sw_channel.proofs.positions.push_each.Given as goal

abbrev pub invariant-loop-k : goal.invariant-loop-k
invariant-loop-k l = (front : List Position) → IfOk l.fn.entries (λ v. v.items ≡ front)
    → IfOk l.entries
    (λ v. v.items ≡ front ++ map alone (map (λ i. (l.fn.run.first.0, towards l.fn.run.first.1 l.fn.run.last.1 i)) (range_with_len 0 l.k)))
