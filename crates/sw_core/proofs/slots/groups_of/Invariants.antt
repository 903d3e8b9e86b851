use Rattle.std.specs.Prelude.{map, take, decimal}
use Rattle.sw_core.specs.Answers.{IsRow}
use Rattle.sw_core.proofs.slots.groups_of.Given as goal

abbrev pub invariant-loop-before : goal.invariant-loop-before
invariant-loop-before g l = IsRow l.text.items (map decimal (take l.before l.card.1.groups))
