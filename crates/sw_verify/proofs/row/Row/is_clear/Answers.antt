use Rattle.std.proofs.Common.{ℕ, ◌==◌, ap, arith}
use Rattle.std.proofs.lemmas.Bool.Decides.{nat_tests}
use Rattle.sw_verify.proofs.Flags.{clear_by_count, count_by_clear}
use Rattle.sw_verify.proofs.row.Row.is_clear.Goals as goal

pub returns : goal.returns
returns c = rw (← c.self.view_is) (
  λ h. clear_by_count c.self.inside.words c.self.inside.count c.self.invariant (grind (arith, nat_tests, h)),
  λ e. ap (λ (n : ℕ). n == 0) (count_by_clear c.self.inside.words c.self.inside.count c.self.invariant e),
)
