use Rattle.std.proofs.Common.{◌≡◌, take, length}
use Rattle.sw_macro.specs.Label.{in_capitals}
use Rattle.sw_macro.proofs.label.read_label.Given as goal

abbrev pub invariant-loop-b : goal.invariant-loop-b
invariant-loop-b l = record { so : l.label.items ≡ in_capitals (take l.b-index l.bytes); len : length l.label.items ≡ l.b-index }
