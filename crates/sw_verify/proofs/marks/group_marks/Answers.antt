use Rattle.std.proofs.lemmas.List.{get_or-replicate, length-replicate}
use Rattle.std.proofs.Common.{false}
use Rattle.sw_verify.proofs.marks.group_marks.Goals as goal

pub loop-c-init : goal.loop-c-init
loop-c-init c = record { marked = λ k w. get_or-replicate 256 k false false w; size = length-replicate 256 false }
