use Rattle.std.proofs.Common.{◌≡◌, drop}
use Rattle.sw_rack.specs.Lines.{first_shown}
use Rattle.sw_rack.proofs.line.shows_soon.Given as goal

abbrev pub invariant-loop-end : goal.invariant-loop-end
invariant-loop-end l = first_shown l.fault l.text (drop l.end-index l.ends) ≡ first_shown l.fault l.text l.ends
