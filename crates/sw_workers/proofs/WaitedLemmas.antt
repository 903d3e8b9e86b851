-- A wait that is closing is so since the end has begun.
use Rattle.std.proofs.Common.{◌≡◌, ◌==◌, ℕ, Bool, true, false, refl, if◌then◌else◌}
use Rattle.sw_workers.specs.declared.shared.Woken.TheVariants.{Turned, Unchanged, Closing}
use Rattle.sw_workers.specs.Waits.{outcome_of}

by_turn : (b : Bool) → (if b then Unchanged else Turned) ≡ Closing → ⊥
by_turn true h = cc (h)
by_turn false h = cc (h)

pub closing_is : (seen turn : ℕ) (c : Bool) → outcome_of seen turn c ≡ Closing → c ≡ true
closing_is seen turn true h = refl
closing_is seen turn false h = absurd (by_turn (turn == seen) h)
