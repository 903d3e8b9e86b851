use Rattle.std.proofs.Common.{◌≡◌, true, ◌∙◌}
use Rattle.sw_core.proofs.HappenedLemmas.{stale_start}
use Rattle.sw_core.proofs.state.Core.start.Goals as goal

pub returns-then-not-is_now-clause-step : goal.returns-then-not-is_now-clause-step
returns-then-not-is_now-clause-step g c =
    rw c.requires.empty (stale_start c.args.self.now.seen c.args.plan c.in_default.ensures.none (λ e.
    let yes : c.is_now.result ≡ true = c.is_now.ensures.1 (c.snapshot.ensures.snapshot ∙ e) in
    absurd (cc (yes, c.if-not-is_now.true))))
