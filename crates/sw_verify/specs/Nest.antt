-- What the verifier looks at, each step once.
use Rattle.std.specs.Prelude.{◌≡◌, ℕ, zero, suc, ◌+◌, ◌*◌, ◌<◌, ◌≤◌, ◌==◌, Bool, true, false, not, List, [], ◌∷◌}
use Rattle.std.specs.Prelude.{Option, Some, None, if◌then◌else◌}
use Rattle.std.specs.List.{list_any}
use Rattle.sw_base.specs.Layout.{Layout}
use Rattle.sw_base.specs.Limits.{most_counters, most_trigger_count}
use Rattle.sw_code.specs.declared.code.Step.{Step}
use Rattle.sw_code.specs.declared.code.Step.TheVariants as step
use Rattle.sw_trigger.specs.declared.layer.Awaited.{Awaited}
use Rattle.sw_trigger.specs.declared.layer.Awaited.TheVariants.{Wait, Period, Pause, Read}
use Rattle.sw_verify.specs.declared.refusal.Refusal.{Refusal}
use Rattle.sw_verify.specs.declared.refusal.Refusal.TheVariants.{BadNesting, BadJump}
use Rattle.sw_verify.specs.declared.nest.Frame.{Frame}
use Rattle.sw_verify.specs.Channels.{Channels, none, with_each, without_each}
use Rattle.sw_verify.specs.Sound.{CanCloseEach, CanOpenEach}

-- a counter is in use while its loop is open
abbrev pub in_use : List Frame → ℕ → Bool
in_use frames j = list_any (λ f. j == f.counter) frames

abbrev pub at_halt : List Step → List Frame → Option Refusal
at_halt [] [] = None
at_halt [] (f ∷ fs) = Some BadNesting
at_halt (o ∷ steps) fs = Some BadNesting

abbrev pub at_loop : ℕ → ℕ → List Frame → (List Frame → Option Refusal) → Option Refusal
at_loop k to [] go = Some BadNesting
at_loop k to (f ∷ fs) go =
    if not (k == f.counter) then Some BadNesting else (if not (to == f.start) then Some BadJump else go fs)

-- the first fault of the steps from this number on, with these loops open, the innermost first
abbrev pub fault_in : List Step → ℕ → List Frame → Option Refusal
fault_in [] pc fs = Some BadNesting
fault_in (step.Set k n ∷ steps) pc fs =
    if in_use fs k then Some BadNesting
    else fault_in steps (pc + 1) (record { counter = k; count = n; start = pc + 1 } ∷ fs)
fault_in (step.Wait name ∷ steps) pc fs = fault_in steps (pc + 1) fs
fault_in (step.Timer name micros ∷ steps) pc fs = fault_in steps (pc + 1) fs
fault_in (step.Pause micros ∷ steps) pc fs = fault_in steps (pc + 1) fs
fault_in (step.Close p ∷ steps) pc fs = fault_in steps (pc + 1) fs
fault_in (step.Read ∷ steps) pc fs = fault_in steps (pc + 1) fs
fault_in (step.Open p ∷ steps) pc fs = fault_in steps (pc + 1) fs
fault_in (step.Loop k to ∷ steps) pc fs = at_loop k to fs (fault_in steps (pc + 1))
fault_in (step.Halt ∷ steps) pc fs = at_halt steps fs

-- each count is at least 1
abbrev pub AreCounted : List Step → Type 0
AreCounted [] = Unit {0}
AreCounted (step.Set k n ∷ steps) = (0 < n) × AreCounted steps
AreCounted (step.Wait name ∷ steps) = AreCounted steps
AreCounted (step.Timer name micros ∷ steps) = AreCounted steps
AreCounted (step.Pause micros ∷ steps) = AreCounted steps
AreCounted (step.Close p ∷ steps) = AreCounted steps
AreCounted (step.Read ∷ steps) = AreCounted steps
AreCounted (step.Open p ∷ steps) = AreCounted steps
AreCounted (step.Loop k to ∷ steps) = AreCounted steps
AreCounted (step.Halt ∷ steps) = AreCounted steps

-- the closed sets where the open loops began
abbrev pub LoopIsRound :
    Channels → Channels → List (Channels × Channels) → (List (Channels × Channels) → Type 0) → Type 0
LoopIsRound b m [] go = ⊥
LoopIsRound b m (s ∷ ss) go = (b ≡ s.0) × (m ≡ s.1) × go ss

-- Each step may be done when it is looked at, in order. b is closed then, m by the code
abbrev pub StepsRight : Layout → List Step → Channels → Channels → List (Channels × Channels) → Type 0
StepsRight layout [] b m ss = Unit {0}
StepsRight layout (step.Set k n ∷ steps) b m ss = StepsRight layout steps b m ((b, m) ∷ ss)
StepsRight layout (step.Wait name ∷ steps) b m ss = StepsRight layout steps b m ss
StepsRight layout (step.Timer name micros ∷ steps) b m ss = StepsRight layout steps b m ss
StepsRight layout (step.Pause micros ∷ steps) b m ss = StepsRight layout steps b m ss
StepsRight layout (step.Close p ∷ steps) b m ss =
    CanCloseEach layout b p × StepsRight layout steps (with_each p b) (with_each p m) ss
StepsRight layout (step.Read ∷ steps) b m ss = StepsRight layout steps b m ss
StepsRight layout (step.Open p ∷ steps) b m ss =
    CanOpenEach m p × StepsRight layout steps (without_each p b) (without_each p m) ss
StepsRight layout (step.Loop k to ∷ steps) b m ss = LoopIsRound b m ss (StepsRight layout steps b m)
StepsRight layout (step.Halt ∷ steps) b m ss = m ≡ none

-- which of the awaiting items count: all of them, or the readings
abbrev pub every : Awaited → Bool
every what = true

abbrev pub is_read : Awaited → Bool
is_read (Wait name) = false
is_read (Period name micros) = false
is_read (Pause micros) = false
is_read Read = true

-- an item that counts does so once for each turn of the open loops
abbrev pub tally_item : (Awaited → Bool) → Awaited → ℕ → ℕ → ℕ
tally_item counts what f rest = if counts what then f + rest else rest

abbrev pub tally_loop : List ℕ → (ℕ → List ℕ → ℕ) → ℕ
tally_loop [] go = 0
tally_loop (g ∷ gs) go = go g gs

abbrev pub tally : (Awaited → Bool) → List Step → ℕ → List ℕ → ℕ
tally counts [] f gs = 0
tally counts (step.Set k n ∷ steps) f gs = tally counts steps (f * n) (f ∷ gs)
tally counts (step.Wait name ∷ steps) f gs = tally_item counts (Wait name) f (tally counts steps f gs)
tally counts (step.Timer name micros ∷ steps) f gs = tally_item counts (Period name micros) f (tally counts steps f gs)
tally counts (step.Pause micros ∷ steps) f gs = tally_item counts (Pause micros) f (tally counts steps f gs)
tally counts (step.Close p ∷ steps) f gs = tally counts steps f gs
tally counts (step.Read ∷ steps) f gs = tally_item counts Read f (tally counts steps f gs)
tally counts (step.Open p ∷ steps) f gs = tally counts steps f gs
tally counts (step.Loop k to ∷ steps) f gs = tally_loop gs (tally counts steps)
tally counts (step.Halt ∷ steps) f gs = 0

-- how often a scan does a step at most, with this many loops round it, each on a counter of its own
abbrev pub most_turns : ℕ → ℕ
most_turns zero = 1
most_turns (suc counters) = most_trigger_count * most_turns counters

abbrev pub Limited : ℕ → Type 0
Limited f = f ≤ most_turns most_counters

abbrev pub limited_loop : List ℕ → (ℕ → List ℕ → Type 0) → Type 0
limited_loop [] go = ⊥
limited_loop (g ∷ gs) go = Limited g × go g gs

-- Each step is done no oftener than that. The next one is done f times, and what follows the ends of the open loops as
-- often as gs says
abbrev pub AreLimited : List Step → ℕ → List ℕ → Type 0
AreLimited [] f gs = Unit {0}
AreLimited (step.Set k n ∷ steps) f gs = Limited (f * n) × AreLimited steps (f * n) (f ∷ gs)
AreLimited (step.Wait name ∷ steps) f gs = AreLimited steps f gs
AreLimited (step.Timer name micros ∷ steps) f gs = AreLimited steps f gs
AreLimited (step.Pause micros ∷ steps) f gs = AreLimited steps f gs
AreLimited (step.Close p ∷ steps) f gs = AreLimited steps f gs
AreLimited (step.Read ∷ steps) f gs = AreLimited steps f gs
AreLimited (step.Open p ∷ steps) f gs = AreLimited steps f gs
AreLimited (step.Loop k to ∷ steps) f gs = limited_loop gs (AreLimited steps)
AreLimited (step.Halt ∷ steps) f gs = Unit {0}
