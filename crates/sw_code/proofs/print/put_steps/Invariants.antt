use Rattle.std.proofs.Common.{◌≡◌, ◌++◌, drop, take}
use Rattle.std.specs.List.{All}
use Rattle.sw_code.specs.Listing.{listed_lines}
use Rattle.sw_code.specs.Range.{HasPosition}
use Rattle.sw_code.proofs.print.put_steps.Given as goal

abbrev pub invariant-loop-step : goal.invariant-loop-step
invariant-loop-step l = record {
  printed : l.out.items ++ listed_lines (drop l.step-index l.steps) ≡ l.fn.out.items ++ listed_lines l.steps;
  channels : All HasPosition (take l.step-index l.steps);
}
