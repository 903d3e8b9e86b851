use Rattle.std.proofs.Common.{◌≡◌, take, length}
use Rattle.sw_base.specs.Limits.{channel_places}
use Rattle.sw_verify.specs.Marks.{ChannelMarks}
use Rattle.sw_verify.proofs.marks.channel_marks.Given as goal

abbrev pub invariant-loop-c : goal.invariant-loop-c
invariant-loop-c l = record { marked : ChannelMarks (take l.c-index l.channels) l.marks; size : length l.marks ≡ channel_places }
