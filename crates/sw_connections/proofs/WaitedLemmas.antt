-- How many reads time limits have ended.
use Rattle.std.proofs.Common.{ℕ, ◌+◌, Option, None, Some, Result, Ok, Err, option_map, ◌∙◌, refl, ap, arith}
use Rattle.sw_session.specs.declared.source.Unread.{Unread}
use Rattle.sw_session.specs.declared.source.Unread.TheVariants.{Paused, Failed}
use Rattle.sw_session.specs.ServeRead.{CountsPause}
use Rattle.sw_connections.specs.Reads.{Waited}

-- no read came
pub waited_none : (p : Option ℕ) → Waited p p
waited_none None = record { reads = 0; counts = refl }
waited_none (Some n) = record { reads = 0; counts = ap Some (omega (arith)) }

-- a read more: where a time limit ended it, one more has been ended
pub waited_on : (old mid new : Option ℕ) (read : Result ℕ Unread) → Waited old mid → CountsPause mid new read → Waited old new
waited_on old mid new (Ok n) w c = record { reads = w.reads; counts = c ∙ w.counts }
waited_on old mid new (Err Failed) w c = record { reads = w.reads; counts = c ∙ w.counts }
waited_on None mid new (Err Paused) w c = record { reads = w.reads + 1; counts = c ∙ ap (option_map (λ m. m + 1)) w.counts }
waited_on (Some o) mid new (Err Paused) w c =
    record { reads = w.reads + 1; counts = c ∙ ap (option_map (λ m. m + 1)) w.counts ∙ ap Some (omega (arith)) }
