use Rattle.std.specs.Prelude.{map, take}
use Rattle.sw_core.specs.Answers.{error_entry, IsRow}
use Rattle.sw_core.proofs.text.all_entries.Given as goal

abbrev pub invariant-loop-error : goal.invariant-loop-error
invariant-loop-error l = IsRow l.text.items (map error_entry (take l.error-index l.errors))
