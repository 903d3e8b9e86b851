use Rattle.std.proofs.Common.{◌≡◌, ◌+◌, ◌*◌, ◌≤◌, drop, []}
use Rattle.sw_base.specs.Limits.{most_counters}
use Rattle.sw_verify.specs.Nest.{tally, every, is_read, AreLimited, Limited, most_turns}
use Rattle.sw_verify.proofs.tally.tally.Given as goal

abbrev pub invariant-loop-i : goal.invariant-loop-i
invariant-loop-i l = record {
  bound : l.counts.bound + tally every (drop l.i l.steps) l.turns l.saved ≡ tally every l.steps 1 [];
  readings : l.counts.readings + tally is_read (drop l.i l.steps) l.turns l.saved ≡ tally is_read l.steps 1 [];
  limited : AreLimited (drop l.i l.steps) l.turns l.saved;
  turns : Limited l.turns;
  most : (l.counts.bound ≤ l.i * most_turns most_counters) × (l.counts.readings ≤ l.i * most_turns most_counters);
}
