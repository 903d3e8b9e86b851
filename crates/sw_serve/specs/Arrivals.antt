-- The connections that come to a port.
use Rattle.std.specs.Prelude.{◌≡◌, ◌≤◌, ◌+◌, ◌⊎◌, ℕ}
use Rattle.sw_serve.specs.declared.port.Arrival.{Arrival}
use Rattle.sw_serve.specs.declared.port.Arrival.TheVariants.{Ended, Aborts}

-- how many connections have come after this, failed ones too
abbrev pub count_after : {C : Type 0} → Arrival C → ℕ → ℕ
count_after Ended taken = taken
count_after Aborts taken = taken
count_after _ taken = taken + 1

-- as many connections came to a port as the limit says, or fewer before it ended
abbrev pub TakesUpTo : ℕ → ℕ → ℕ → Type 0 → Type 0
TakesUpTo limit before after ended = (after ≡ before + limit) ⊎ ((after ≤ before + limit) × ended)
