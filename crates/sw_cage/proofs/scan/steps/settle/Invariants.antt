use Rattle.std.proofs.Common.{◌-◌, ◌≤◌, List}
use Rattle.sw_trigger.specs.Agenda.{Item}
use Rattle.sw_code.specs.Pace.{most_counting, IsNear}
use Rattle.sw_cage.specs.Steps.{Does}
use Rattle.sw_cage.proofs.scan.steps.settle.Given as goal

abbrev pub invariant-loop : goal.invariant-loop
invariant-loop l = record {
  few : l.counter ≤ most_counting;
  near : IsNear l.steps (most_counting - l.counter) l.at.step;
  does : (items : List Item) → Does l.steps l.fn.at items → Does l.steps l.at items;
}
