use Rattle.std.proofs.Common.{◌≡◌, ◌++◌, drop, map}
use Rattle.mainframe.specs.RackBoards.{command_seen, commands_for}
use Rattle.mainframe.proofs.rack_lines.as_they_are.Given as goal

abbrev pub invariant-loop-line : goal.invariant-loop-line
invariant-loop-line l =
    map command_seen l.commands.items ++ commands_for (drop l.line-index l.lines) l.end l.ending l.word
    ≡ commands_for l.lines l.end l.ending l.word
