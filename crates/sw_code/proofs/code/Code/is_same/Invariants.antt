use Rattle.std.proofs.Common.{◌≡◌, take}
use Rattle.sw_code.proofs.code.Code.is_same.Given as goal

abbrev pub invariant-loop-i : goal.invariant-loop-i
invariant-loop-i l = take l.i l.self-inside.steps.items ≡ take l.i l.other-inside.steps.items
