use Rattle.std.proofs.Common.{◌≡◌}
use Rattle.sw_rack.specs.Lines.{ends_from}
use Rattle.sw_rack.proofs.Fronts.{ends_on}
use Rattle.sw_rack.proofs.line.line_ends.Given as goal

abbrev pub invariant-loop-place : goal.invariant-loop-place
invariant-loop-place l = ends_on l.ends.items l.place l.text ≡ ends_from 0 l.text
