use Rattle.std.proofs.Common.{◌≡◌, map}
use Rattle.mainframe.specs.RackBoards.{command_seen, each_line}
use Rattle.mainframe.proofs.rack_lines.for_each.Given as goal

abbrev pub invariant-loop-before : goal.invariant-loop-before
invariant-loop-before l = map command_seen l.commands.items ≡ each_line l.before l.template l.end l.ending l.word
