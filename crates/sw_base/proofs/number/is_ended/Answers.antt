use Rattle.sw_base.proofs.Numerals.{ended}
use Rattle.sw_base.proofs.number.is_ended.Goals as goal

pub returns : goal.returns
returns c = (
  λ h. record { letters = c.letters.result.0.now; rest = c.letters.result.1.now; all = c.letters.ensures; end = c.is_at_end.ensures.0 h },
  λ h. c.is_at_end.ensures.1 (ended _ _ _ c.letters.ensures h),
)
