-- The place of a thing among all that the turns of a layer await.
use Rattle.std.specs.Prelude.{◌≡◌, ℕ, ◌<◌, List, length, Some}
use Rattle.std.specs.List.{slice_get}
use Rattle.sw_trigger.specs.declared.layer.Awaited.{Awaited}
use Rattle.sw_trigger.specs.declared.counts.Found.{Found}
use Rattle.sw_trigger.specs.declared.counts.Found.TheVariants.{Here, Inside}

-- the n-th of all, which at the head of a turn is this, and else the one of that index inside a turn
abbrev pub Finds : List Awaited → ℕ → List Awaited → Found → Type 0
Finds all n inside (Here what) = slice_get all n ≡ Some what
Finds all n inside (Inside i) = (i < length inside) × (slice_get all n ≡ slice_get inside i)
