use Rattle.std.proofs.Common.{◌≡◌, take, length}
use Rattle.sw_verify.specs.Marks.{GroupMarks}
use Rattle.sw_verify.proofs.marks.group_marks.Given as goal

abbrev pub invariant-loop-c : goal.invariant-loop-c
invariant-loop-c l = record { marked : GroupMarks l.layout (take l.c-index l.channels) l.marks; size : length l.marks ≡ 256 }
