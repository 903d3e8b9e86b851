use Rattle.std.specs.Prelude.{map, take}
use Rattle.sw_base.specs.Reading.{reading_text}
use Rattle.sw_core.specs.Answers.{IsRow}
use Rattle.sw_core.proofs.readings_text.all_readings.Given as goal

abbrev pub invariant-loop-reading : goal.invariant-loop-reading
invariant-loop-reading l = IsRow l.text.items (map reading_text (take l.reading-index l.readings))
