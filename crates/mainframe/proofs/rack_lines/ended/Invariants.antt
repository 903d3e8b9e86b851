use Rattle.std.proofs.Common.{◌≡◌, ◌++◌, drop, map}
use Rattle.mainframe.specs.RackBoards.{ended_lines}
use Rattle.mainframe.proofs.rack_lines.ended.Given as goal

abbrev pub invariant-loop-line : goal.invariant-loop-line
invariant-loop-line l =
    map (λ line. line.items) l.all.items ++ ended_lines (drop l.line-index l.lines) l.end ≡ ended_lines l.lines l.end
