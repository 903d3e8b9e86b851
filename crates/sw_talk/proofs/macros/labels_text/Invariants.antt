use Rattle.std.specs.Prelude.{◌≡◌, take}
use Rattle.sw_macro.specs.Table.{labels}
use Rattle.sw_talk.specs.Macros.{row_of}
use Rattle.sw_talk.proofs.macros.labels_text.Given as goal

abbrev pub invariant-loop-i : goal.invariant-loop-i
invariant-loop-i l = l.text.items ≡ row_of (take l.i (labels l.macros.macros))
