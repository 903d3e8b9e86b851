use Rattle.std.proofs.Common.{◌≡◌}
use Rattle.sw_talk.specs.Trace.{Led}
use Rattle.sw_talk.proofs.TalksLemmas.{SettlesBy}
use Rattle.sw_talk.proofs.asking.retry_until_free.Given as goal

abbrev pub invariant-loop-turn : goal.invariant-loop-turn
invariant-loop-turn g l = record {
  same : l.ask ≡ l.fn.held;
  led : Led g.D.Desk.passes l.fn.desk l.desk (SettlesBy l.sid l._turn l.fn.held);
}
