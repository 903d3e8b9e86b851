-- Why the verifier refuses a step.
use Rattle.std.specs.Prelude.{◌≡◌, ℕ, ◌<◌, true, false, List, [], ◌∷◌, length, take, slice_index_or, ◌⊎◌}
use Rattle.std.specs.List.{AllByRecursion}
use Rattle.sw_base.specs.Layout.{Channel, Layout, is_present}
use Rattle.sw_channel.specs.Positions.{Position}
use Rattle.sw_code.specs.declared.code.Step.{Step}
use Rattle.sw_code.specs.declared.code.Step.TheVariants as step
use Rattle.sw_verify.specs.declared.refusal.Refusal.{Refusal}
use Rattle.sw_verify.specs.declared.refusal.Refusal.TheVariants.{NoChannel, GroupClash, LeftClosed, NotClosed}
use Rattle.sw_verify.specs.Channels.{Channels, none, with_channel, without, with_each, without_each}
use Rattle.sw_verify.specs.Sound.{CanCloseOne, CanCloseEach, CanOpenEach}
use Rattle.sw_verify.specs.Check.{IsBlocked}

-- the channel is absent; or it is there, and is closed or of a closed channel's group
abbrev pub IsBarred : Layout → Channels → Channel → Refusal → Type 0
IsBarred layout b c r =
    ((is_present layout c ≡ false) × (r ≡ NoChannel))
    ⊎ ((is_present layout c ≡ true) × IsBlocked layout b c × (r ≡ GroupClash))

-- from left to right a channel of the position is so, when its turn comes
abbrev pub IsBarredAt : Layout → Channels → Position → Refusal → Type 0
IsBarredAt layout b [] r = ⊥
IsBarredAt layout b (c ∷ p) r =
    IsBarred layout b c r ⊎ (CanCloseOne layout b c × IsBarredAt layout (with_channel c b) p r)

-- of positions that are closed each by itself, the first that can't be
pub record IsFirstBarred (layout : Layout) (b : Channels) (positions : List Position) (p : Position) : Type 0 where
  pub at : ℕ
  pub within : at < length positions
  pub there : slice_index_or positions at p ≡ p
  pub before : AllByRecursion (CanCloseEach layout b) (take at positions)
  pub cause : Refusal
  pub barred : IsBarredAt layout b p cause

-- from left to right a channel of the position is not mine, when its turn comes
abbrev pub IsNotMineAt : Channels → Position → Type 0
IsNotMineAt m [] = ⊥
IsNotMineAt m (c ∷ p) = (m c ≡ false) ⊎ ((m c ≡ true) × IsNotMineAt (without c m) p)

-- a loop's body ends with another closed set than it began with, or it does not and what follows stops
abbrev pub LoopStops :
    Channels → Channels → List (Channels × Channels) → Refusal → (List (Channels × Channels) → Type 0) → Type 0
LoopStops b m [] r go = r ≡ LeftClosed
LoopStops b m (s ∷ ss) r go = (((b ≡ s.0) × (m ≡ s.1) → ⊥) × (r ≡ LeftClosed)) ⊎ ((b ≡ s.0) × (m ≡ s.1) × go ss)

-- r refuses the first step that may not be done, each looked at once in order. b is closed then, m by the code.
abbrev pub StopsBy : Layout → Refusal → List Step → Channels → Channels → List (Channels × Channels) → Type 0
StopsBy layout r [] b m ss = ⊥
StopsBy layout r (step.Set k n ∷ steps) b m ss = StopsBy layout r steps b m ((b, m) ∷ ss)
StopsBy layout r (step.Wait name ∷ steps) b m ss = StopsBy layout r steps b m ss
StopsBy layout r (step.Timer name micros ∷ steps) b m ss = StopsBy layout r steps b m ss
StopsBy layout r (step.Pause micros ∷ steps) b m ss = StopsBy layout r steps b m ss
StopsBy layout r (step.Close p ∷ steps) b m ss =
    IsBarredAt layout b p r ⊎ (CanCloseEach layout b p × StopsBy layout r steps (with_each p b) (with_each p m) ss)
StopsBy layout r (step.Read ∷ steps) b m ss = StopsBy layout r steps b m ss
StopsBy layout r (step.Open p ∷ steps) b m ss =
    (IsNotMineAt m p × (r ≡ NotClosed))
    ⊎ (CanOpenEach m p × StopsBy layout r steps (without_each p b) (without_each p m) ss)
StopsBy layout r (step.Loop k to ∷ steps) b m ss = LoopStops b m ss r (StopsBy layout r steps b m)
StopsBy layout r (step.Halt ∷ steps) b m ss = (m ≡ none → ⊥) × (r ≡ LeftClosed)
