use Rattle.std.proofs.Common.{◌≡◌, ◌+◌, ◌≤◌, length}
use Rattle.std.specs.List.{AllByRecursion}
use Rattle.sw_code.specs.Range.{IsStep}
use Rattle.sw_code.specs.Reading.{parts_at, steps_in, after_steps}
use Rattle.sw_code.proofs.read.read_steps.Given as goal

abbrev pub invariant-lines : goal.invariant-lines
invariant-lines l = record {
  same : steps_in l.version 3 (parts_at 10 l.text) ≡ after_steps l.steps.items (steps_in l.version l.line (parts_at 10 l.rest));
  line : l.line ≡ 3 + length l.steps.items;
  most : l.line ≤ 8195;
  range : AllByRecursion IsStep l.steps.items;
}

abbrev pub decreases-lines : goal.decreases-lines
decreases-lines l = length l.rest
