use Rattle.std.specs.Prelude.{map, take}
use Rattle.sw_cage.specs.Accounts.{is_closed}
use Rattle.sw_core.specs.Answers.{yes_or_no, as_asked, IsRow}
use Rattle.sw_core.proofs.text.flags.Given as goal

abbrev pub invariant-loop-chan : goal.invariant-loop-chan
invariant-loop-chan g l = IsRow l.text.items (map (λ c. yes_or_no (as_asked l.closed (is_closed l.cage.seen.cards c))) (take l.chan-index l.chans))
